-- What `pull` opens, leaves and closes.
use Rattle.std.specs.Prelude.{◌≡◌, ◌≢◌, ℕ, List}
use Rattle.cli_faults.specs.Commands.{lock_of}
use Rattle.cli_faults.specs.declared.command.Command.TheVariants.{Verify, Pull}
use Rattle.os_files.specs.declared.identity.Identity.{Identity}
use Rattle.os_files.specs.declared.part.Part.{Part}
use Rattle.os_files.specs.declared.part.Part.TheVariants.{AtMost}
use Rattle.os_files.specs.declared.system.System.{Ghosts}
use Rattle.cli_pull.specs.declared.local.Others.{Others}

-- what stands at a path of the source was opened to be read, and locked as `verify` locks it; this store is over it, and this is the file
pub record IsSourceAt {S F D J : Type 0} (facts : Ghosts S F D J) (s : S) (path : List ℕ) (blocks : ℕ) (source : D) (file : Identity)
    : Type 0 where
  pub opened : F
  pub is_opened : facts.opens s path opened
  pub locked : facts.locks s opened (lock_of Verify)
  pub there : facts.lies s opened (AtMost blocks) source
  pub same : file ≡ facts.identity opened

-- what stands at a path was opened to be written, or made, which made another system, and locked; this store is over this part of it, and
-- this is the file
pub record IsOwnAt {S F D J : Type 0} (facts : Ghosts S F D J) (old : S) (path : List ℕ) (part : Part) (own : D) (file : Identity) (new : S)
    : Type 0 where
  pub opened : F
  pub is_opened : facts.opens_to_write old path opened new
  pub locked : facts.locks new opened (lock_of Pull)
  pub there : facts.lies new opened part own
  pub same : file ≡ facts.identity opened

-- a file is none of three others
abbrev pub IsOther : Others → Identity → Type 0
IsOther others file = (file ≢ others.source_data) × ((file ≢ others.source_hash) × (file ≢ others.own))

-- the files of DATA and HASH are two, and neither is one of the source's
pub record AreApart (source_data source_hash image device : Identity) : Type 0 where
  pub data_data : image ≢ source_data
  pub data_hash : image ≢ source_hash
  pub hash_data : device ≢ source_data
  pub hash_hash : device ≢ source_hash
  pub own : device ≢ image

-- DATA, then HASH was opened to be written, as one store each
pub record IsOpened {S F D J : Type 0} (facts : Ghosts S F D J) (old new : S) (data_path hash_path : List ℕ) (data_part hash_part : Part)
    (l k : D) (image device : Identity) : Type 0 where
  pub between : S
  pub data_opened : IsOwnAt facts old data_path data_part l image between
  pub hash_opened : IsOwnAt facts between hash_path hash_part k device new

-- and they were closed, in this order, as other stores: from the one system to the other leads nothing else
pub record IsLeft {S F D J : Type 0} (facts : Ghosts S F D J) (old new : S) (data_path hash_path : List ℕ) (data_part hash_part : Part)
    (l k l' k' : D) (image device : Identity) : Type 0 where
  pub both : S
  pub between : S
  pub opened : IsOpened facts old both data_path hash_path data_part hash_part l k image device
  pub data_closed : facts.closes both data_path l' between
  pub hash_closed : facts.closes between hash_path k' new
