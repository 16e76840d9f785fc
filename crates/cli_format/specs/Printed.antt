-- What `format` prints.
use Rattle.std.specs.Prelude.{◌≡◌, ℕ, true, List, Option, Some, Ok}
use Rattle.std.specs.Io.KnownBytes.{Appends}
use Rattle.verity_digest.specs.Hash.{name_of}
use Rattle.verity_store.specs.Stores.{IsLater, IsOnlyRead}
use Rattle.verity_store.specs.declared.store.BlockStore as store
use Rattle.verity_superblock.specs.Image.{start_behind}
use Rattle.verity_superblock.specs.Line.{TableLine, IsTableLine, canonical}
use Rattle.verity_build.specs.Given.{AreGiven}
use Rattle.verity_chain.specs.Right.{Fits}
use Rattle.cli_faults.specs.Faults.{line}
use Rattle.cli_faults.specs.Words.{number_in, salt_of}
use Rattle.cli_faults.specs.declared.failure.Word.TheVariants as word
use Rattle.cli_arguments.specs.declared.words.format.FormatWords.{FormatWords}
use Rattle.cli_format.specs.Formatting.{IsAsked}
use Rattle.cli_format.specs.Made.{device_of}
use Rattle.cli_format.specs.declared.formatting.Shape.{Shape}

-- What `format` prints: one table line of the profile, with the paths, the block sizes, the algorithm and the salt that were asked for, of
-- a tree that begins behind the superblock. It fits an image of which each block was read of a store of which the one holds; where that
-- tells, the image that it holds. The other store, of which `leaves` holds, was left as the hash device of that image, where both tell.
pub record IsFormatted {D : Type 0} (facts : store.Ghosts D) (lies : Shape → D → Type 0) (leaves : Shape → D → D → Type 0)
    (words : FormatWords) (old new : Option (List ℕ)) : Type 0 where
  pub table : TableLine
  pub offset : ℕ
  pub shape : Shape
  pub image : List (List ℕ)
  pub source : D
  pub source' : D
  pub target : D
  pub target' : D
  pub profile : IsTableLine table
  pub dev : table.dev ≡ words.data_path.now
  pub hash_dev : table.hash_dev ≡ words.hash_path.now
  pub data_block_size : number_in word.DataBlockSize words.data_block_size.now ≡ Ok table.data_block_size
  pub hash_block_size : number_in word.HashBlockSize words.hash_block_size.now ≡ Ok table.hash_block_size
  pub salt : salt_of words.salt.now ≡ Some table.salt
  pub asked : number_in word.HashOffset words.hash_offset.now ≡ Ok offset
  pub start : table.hash_start_block ≡ start_behind offset table.hash_block_size
  pub algorithm : words.algorithm.now ≡ name_of table.algorithm
  pub shaped : IsAsked words shape
  pub there : lies shape source
  pub read : IsOnlyRead facts source source'
  pub given : AreGiven facts source source' image
  pub told : facts.tells source ≡ true → Fits table (facts.content source)
  pub fits : Fits table image
  pub left : leaves shape target target'
  pub later : IsLater facts target target'
  pub written : facts.tells source ≡ true → facts.tells target ≡ true
      → facts.content target' ≡ device_of shape table.salt (facts.content source) (facts.content target)
  pub synced : facts.synced target' ≡ true
  pub printed : Appends old new (line (canonical table))
