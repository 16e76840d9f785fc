-- What `dump` prints, which argument it blames, and where S1 comes from.
use Rattle.std.specs.Prelude.{◌≡◌, ◌<◌, ◌-◌, ◌^◌, ℕ, List, Option, Ok, ⊤}
use Rattle.std.specs.Io.KnownBytes.{Appends}
use Rattle.cli_faults.specs.Misread.{IsMisread}
use Rattle.cli_faults.specs.Words.{number_in}
use Rattle.cli_faults.specs.declared.failure.Failure.{Failure}
use Rattle.cli_faults.specs.declared.failure.Failure.TheVariants as failure
use Rattle.cli_faults.specs.declared.failure.Word.TheVariants as word
use Rattle.os_files.specs.declared.part.Part.TheVariants.{AtMost}
use Rattle.os_files.specs.declared.system.System.{Ghosts}
use Rattle.verity_store.specs.declared.store.BlockStore as store
use Rattle.verity_superblock.specs.Image.{CanBegin, start_behind}
use Rattle.verity_superblock.specs.Superblock.{Volume, IsProfile}
use Rattle.cli_volume.specs.Lines.{superblock_lines}
use Rattle.cli_volume.specs.Superblocks.{IsReadAs}
use Rattle.cli_arguments.specs.declared.words.dump.DumpWords.{DumpWords}

-- What is printed: a superblock of the profile, that the store over what was opened at HASH's path gave at the offset that was asked for,
-- and its tree.
pub record IsDumped {S F D J : Type 0} (facts : Ghosts S F D J) (stores : store.Ghosts D) (s : S) (words : DumpWords)
    (old new : Option (List ℕ)) : Type 0 where
  pub offset : ℕ
  pub volume : Volume
  pub opened : F
  pub source : D
  pub left : D
  pub asked : number_in word.HashOffset words.hash_offset.now ≡ Ok offset
  pub is_opened : facts.opens s words.hash_path.now opened
  pub there : facts.lies s opened (AtMost (2 ^ 64 - 1)) source
  pub given : IsReadAs stores source left offset volume
  pub profile : IsProfile volume.params volume.data_blocks
  pub begins : CanBegin offset volume.params.hash_block_size
  pub printed : Appends old new (superblock_lines volume (start_behind offset volume.params.hash_block_size))

-- no argument is blamed but an offset that isn't understood
abbrev pub DumpBlames : DumpWords → Failure → Type 0
DumpBlames words (failure.Word word.HashOffset) = IsMisread word.HashOffset words.hash_offset.now
DumpBlames words (failure.Word _) = ⊥
DumpBlames words _ = ⊤

-- a store over what was opened at a path has failed
pub record IsReadFailed {S F D J : Type 0} (facts : Ghosts S F D J) (stores : store.Ghosts D) (s : S) (path : List ℕ) : Type 0 where
  pub opened : F
  pub source : D
  pub left : D
  pub is_opened : facts.opens s path opened
  pub there : facts.lies s opened (AtMost (2 ^ 64 - 1)) source
  pub fixed : stores.fixed left ≡ stores.fixed source
  pub failed : 0 < stores.failures left
