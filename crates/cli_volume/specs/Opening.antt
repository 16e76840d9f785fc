-- What a volume's files are opened with, and when they are one.
use Rattle.std.specs.Prelude.{◌≡◌, ◌⊎◌, ℕ, List, Option, Some, None}
use Rattle.verity_superblock.specs.Image.{CanBegin, start_behind}
use Rattle.verity_superblock.specs.Line.{TableLine}
use Rattle.cli_faults.specs.Words.{paths_refusal}
use Rattle.cli_faults.specs.declared.failure.Failure.TheVariants as failure
use Rattle.cli_faults.specs.declared.failure.Word.TheVariants as word
use Rattle.os_host.specs.declared.opening.Opened.{Opened}
use Rattle.os_host.specs.declared.paths.Paths.{Ghosts}
use Rattle.cli_volume.specs.declared.opened_volume.Sizes.{Sizes}

-- what a table line says
pub record AreOf (table : TableLine) (sizes : Sizes) : Type 0 where
  pub data_block_size : sizes.data_block_size ≡ table.data_block_size
  pub hash_block_size : sizes.hash_block_size ≡ table.hash_block_size
  pub data_blocks : sizes.data_blocks ≡ table.data_blocks
  pub hash_start_block : sizes.hash_start_block ≡ table.hash_start_block

-- what a superblock at a byte offset says: its tree begins behind it
pub record AreAt (offset : ℕ) (sizes : Sizes) : Type 0 where
  pub begins : CanBegin offset sizes.hash_block_size
  pub start : sizes.hash_start_block ≡ start_behind offset sizes.hash_block_size

-- a table line's, where there is one, else those of the superblock at a byte offset
abbrev pub AreSizes : Option TableLine → ℕ → Sizes → Type 0
AreSizes (Some table) offset sizes = AreOf table sizes
AreSizes None offset sizes = AreAt offset sizes

-- one file was opened at both paths
abbrev pub IsOneFile : {P : Type 0} → Ghosts P → P → (data_path hash_path : List ℕ) → Type 0
IsOneFile facts p data_path hash_path = (image device : Opened) × facts.opens p data_path image × facts.opens p hash_path device
    × (image.identity ≡ device.identity)

-- HASH isn't understood: its path doesn't fit beside DATA's, or one file was opened at both
abbrev pub MisnamesHash : {P : Type 0} → Ghosts P → P → (data_path hash_path : List ℕ) → Type 0
MisnamesHash facts p data_path hash_path = (paths_refusal data_path hash_path ≡ Some (failure.Word word.Hash))
    ⊎ IsOneFile facts p data_path hash_path
