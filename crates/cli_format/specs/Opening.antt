-- What `format` opens.
use Rattle.std.specs.Prelude.{◌≡◌, ◌≢◌, ◌-◌, ◌^◌, ℕ, List}
use Rattle.cli_faults.specs.Commands.{lock_of}
use Rattle.cli_faults.specs.declared.command.Command.{Command}
use Rattle.cli_faults.specs.declared.command.Command.TheVariants.{Format}
use Rattle.os_files.specs.declared.identity.Identity.{Identity}
use Rattle.os_files.specs.declared.part.Part.TheVariants.{AtMost}
use Rattle.os_files.specs.declared.system.System.{Ghosts}
use Rattle.cli_format.specs.Made.{hash_part}
use Rattle.cli_format.specs.declared.formatting.Shape.{Shape}

-- DATA was opened to be read and locked for a command, as this store, and is this file
pub record IsOpenedAsked {S F D J : Type 0} (facts : Ghosts S F D J) (command : Command) (s : S) (path : List ℕ) (shape : Shape)
    (source : D) (identity : Identity) : Type 0 where
  pub opened : F
  pub is_opened : facts.opens s path opened
  pub locked : facts.locks s opened (lock_of command)
  pub same : identity ≡ facts.identity opened

-- HASH was opened to be written and locked, as this store, and is another file than this
pub record IsOpenedAnew {S F D J : Type 0} (facts : Ghosts S F D J) (old : S) (path : List ℕ) (shape : Shape) (other : Identity)
    (target : D) (new : S) : Type 0 where
  pub opened : F
  pub is_opened : facts.opens_to_write old path opened new
  pub apart : other ≢ facts.identity opened
  pub locked : facts.locks new opened (lock_of Format)
  pub there : facts.lies new opened (hash_part shape.hash_offset) target

-- HASH was opened to be written and locked for a command, as this store over all that stands in it, and is another file than this
pub record IsOpenedBeside {S F D J : Type 0} (facts : Ghosts S F D J) (command : Command) (old : S) (path : List ℕ) (other : Identity)
    (target : D) (new : S) : Type 0 where
  pub opened : F
  pub is_opened : facts.opens_to_write old path opened new
  pub apart : other ≢ facts.identity opened
  pub locked : facts.locks new opened (lock_of command)
  pub there : facts.lies new opened (AtMost (2 ^ 64 - 1)) target
