-- What `format` was asked for, and the line of what it made.
use Rattle.std.specs.Prelude.{◌≡◌, ◌≢◌, ℕ, List, Option, Some, None, Result, Ok, Err, IfSome}
use Rattle.verity_superblock.specs.Line.{TableLine, algorithm_of}
use Rattle.verity_digest.specs.Hash.{name_of}
use Rattle.cli_faults.specs.Commands.{lock_of}
use Rattle.os_files.specs.Parts.{HasFewer}
use Rattle.cli_faults.specs.Words.{number_in, uuid_in}
use Rattle.cli_faults.specs.declared.command.Command.TheVariants.{Format}
use Rattle.cli_faults.specs.declared.failure.Failure.{Failure}
use Rattle.cli_faults.specs.declared.failure.Word.TheVariants as word
use Rattle.os_files.specs.declared.system.System.{Ghosts}
use Rattle.os_commit_flag.specs.Shut.{IsShutBeside}
use Rattle.cli_arguments.specs.declared.words.format.FormatWords.{FormatWords}
use Rattle.cli_format.specs.Made.{data_part}
use Rattle.cli_format.specs.declared.formatting.Made.{Made}
use Rattle.cli_format.specs.declared.formatting.Shape.{Shape}

-- so many data blocks, where it is said how many
abbrev pub some_blocks : Result ℕ Failure → Result (Option ℕ) Failure
some_blocks (Ok blocks) = Ok (Some blocks)
some_blocks (Err failure) = Err failure

-- the numbers and names are those of the words
pub record IsAsked (words : FormatWords) (shape : Shape) : Type 0 where
  pub data_block_size : number_in word.DataBlockSize words.data_block_size.now ≡ Ok shape.data_block_size
  pub hash_block_size : number_in word.HashBlockSize words.hash_block_size.now ≡ Ok shape.hash_block_size
  pub hash_offset : number_in word.HashOffset words.hash_offset.now ≡ Ok shape.hash_offset
  pub all_blocks : words.data_blocks ≡ None → shape.data_blocks ≡ None
  pub blocks : IfSome words.data_blocks (λ text. some_blocks (number_in word.DataBlocks text.now) ≡ Ok shape.data_blocks)
  pub algorithm : words.algorithm.now ≡ name_of shape.algorithm
  pub uuid : uuid_in words.uuid.now ≡ Ok shape.uuid

-- what was opened at a path has fewer blocks than were asked for
abbrev pub IsShort : {S F D J : Type 0} → Ghosts S F D J → S → List ℕ → Shape → Type 0
IsShort facts s path shape = (image : _) × facts.opens s path image
    × HasFewer (data_part shape.data_blocks) (facts.len image) shape.data_block_size

-- what was opened at DATA's path has fewer blocks than the words ask for
abbrev pub FallsShort : {S F D J : Type 0} → Ghosts S F D J → S → FormatWords → Type 0
FallsShort facts s words = (shape : Shape) × IsAsked words shape × IsShort facts s words.data_path.now shape

-- the table line of a device that was made
abbrev pub line_made : FormatWords → Shape → Made → List ℕ → TableLine
line_made words shape made salt = record {
  dev = words.data_path.now;
  hash_dev = words.hash_path.now;
  data_block_size = shape.data_block_size;
  hash_block_size = shape.hash_block_size;
  data_blocks = made.data_blocks;
  hash_start_block = made.hash_start_block;
  algorithm = algorithm_of made.root;
  root = made.root;
  salt = salt;
}

-- what `format` works on: two files that were opened at its paths and locked; no gate is open beside the hash device
pub record AreTaken {S F D J : Type 0} (facts : Ghosts S F D J) (s : S) (words : FormatWords) : Type 0 where
  pub image : F
  pub device : F
  pub between : S
  pub data_opened : facts.opens s words.data_path.now image
  pub hash_opened : facts.opens_to_write s words.hash_path.now device between
  pub apart : facts.identity image ≢ facts.identity device
  pub data_locked : facts.locks s image (lock_of Format)
  pub hash_locked : facts.locks between device (lock_of Format)
  pub shut : IsShutBeside facts s words.hash_path.now

-- one file was opened at both paths
abbrev pub IsOneFile : {S F D J : Type 0} → Ghosts S F D J → S → (data_path hash_path : List ℕ) → Type 0
IsOneFile facts s data_path hash_path = (image : _) × (device : _) × (between : _) × facts.opens s data_path image
    × facts.opens_to_write s hash_path device between × (facts.identity image ≡ facts.identity device)
