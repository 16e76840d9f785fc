-- Which words `format` blames, and when.
use Rattle.std.specs.Prelude.{◌≡◌, ◌⊎◌, Some, ⊤, IfSome}
use Rattle.cli_faults.specs.Words.{paths_refusal}
use Rattle.cli_faults.specs.declared.failure.Failure.{Failure}
use Rattle.cli_faults.specs.declared.failure.Failure.TheVariants as failure
use Rattle.cli_faults.specs.declared.failure.Word.TheVariants as word
use Rattle.os_files.specs.declared.system.System.{Ghosts}
use Rattle.cli_arguments.specs.declared.words.format.FormatWords.{FormatWords}
use Rattle.cli_faults.specs.Misread.{IsMisread}
use Rattle.cli_format.specs.Formatting.{IsOneFile}

-- no word is blamed but one that isn't understood
abbrev pub Misreads : FormatWords → Failure → Type 0
Misreads words (failure.Word word.Salt) = IsMisread word.Salt words.salt.now
Misreads words (failure.Word word.Uuid) = IsMisread word.Uuid words.uuid.now
Misreads words (failure.Word word.DataBlocks) = IfSome words.data_blocks (λ text. IsMisread word.DataBlocks text.now)
Misreads words (failure.Word word.DataBlockSize) = IsMisread word.DataBlockSize words.data_block_size.now
Misreads words (failure.Word word.HashBlockSize) = IsMisread word.HashBlockSize words.hash_block_size.now
Misreads words (failure.Word word.Algorithm) = IsMisread word.Algorithm words.algorithm.now
Misreads words (failure.Word word.HashOffset) = IsMisread word.HashOffset words.hash_offset.now
Misreads words (failure.Word _) = ⊥
Misreads words _ = ⊤

-- or DATA's path or HASH's isn't right: it doesn't fit beside the other, or one file was opened at both
abbrev pub FormatBlames : {S F D J : Type 0} → Ghosts S F D J → S → FormatWords → Failure → Type 0
FormatBlames facts s words (failure.Word word.Data) = paths_refusal words.data_path.now words.hash_path.now ≡ Some (failure.Word word.Data)
FormatBlames facts s words (failure.Word word.Hash) =
    (paths_refusal words.data_path.now words.hash_path.now ≡ Some (failure.Word word.Hash))
    ⊎ IsOneFile facts s words.data_path.now words.hash_path.now
FormatBlames facts s words e = Misreads words e
