-- Refusals, and the words that they blame.
use Rattle.std.proofs.Common.{◌≡◌, Bool, true, false, ℕ, List, Option, Some, None, Result, Ok, Err, IfErr, IsErrAnd}
use Rattle.std.proofs.Common.{subst, sym, ap, inl, inr, ◌∙◌}
use Rattle.std.specs.Prelude.{if◌then◌else◌, ok_or}
use Rattle.std.specs.Str.Parse.{digits_value}
use Rattle.uuid.specs.Text.{parsed}
use Rattle.cli_faults.specs.Errors.{IsS1For}
use Rattle.cli_faults.specs.Words.{is_decimal, number_in, uuid_in}
use Rattle.cli_faults.specs.declared.failure.Failure.{Failure}
use Rattle.cli_faults.specs.declared.failure.Failure.TheVariants as failure
use Rattle.cli_faults.specs.declared.failure.Word.{Word}
use Rattle.cli_faults.specs.declared.failure.Word.TheVariants as word
use Rattle.os_files.specs.declared.system.System.{Ghosts}
use Rattle.os_commit_flag.specs.Refusals.{BlamesAtMost}
use Rattle.cli_arguments.specs.declared.words.format.FormatWords.{FormatWords}
use Rattle.cli_format.specs.Blamed.{FormatBlames, Misreads}
use Rattle.cli_format.specs.Formatting.{IsOneFile}
use Rattle.cli_format.specs.Kept.{IsOfArgument}

only : (read : Bool) (n : ℕ) (known e : Failure) → (if read then Ok n else Err known) ≡ Err e → e ≡ known
only true n known e is = absurd (cc is)
only false n known e is = cc

unread : (read : Option (List ℕ)) (known e : Failure) → ok_or read known ≡ Err e → e ≡ known
unread (Some uuid) known e is = absurd (cc is)
unread None known e is = cc

by_number : (w : Word) (text : List ℕ) (e : Failure) → number_in w text ≡ Err e → e ≡ failure.Word w
by_number w text e is = only (is_decimal text) (digits_value 10 text) (failure.Word w) e is

-- a number that `format` doesn't read blames its word
pub of_data_block_size : (words : FormatWords) (e : Failure) → number_in word.DataBlockSize words.data_block_size.now ≡ Err e
    → Misreads words e
of_data_block_size words e is =
    let same = by_number word.DataBlockSize words.data_block_size.now e is in
    subst (Misreads words) (sym same) (is ∙ ap Err same)

pub of_hash_block_size : (words : FormatWords) (e : Failure) → number_in word.HashBlockSize words.hash_block_size.now ≡ Err e
    → Misreads words e
of_hash_block_size words e is =
    let same = by_number word.HashBlockSize words.hash_block_size.now e is in
    subst (Misreads words) (sym same) (is ∙ ap Err same)

pub of_hash_offset : (words : FormatWords) (e : Failure) → number_in word.HashOffset words.hash_offset.now ≡ Err e → Misreads words e
of_hash_offset words e is =
    let same = by_number word.HashOffset words.hash_offset.now e is in
    subst (Misreads words) (sym same) (is ∙ ap Err same)

pub misread_data_block_size : {T : Type 0} (done : Result T Failure) (words : FormatWords) (e : Failure)
    → IsErrAnd done (λ other. other ≡ e) → number_in word.DataBlockSize words.data_block_size.now ≡ Err e → IfErr done (Misreads words)
misread_data_block_size (Ok done) words e is was = tt
misread_data_block_size (Err other) words e is was = subst (Misreads words) (sym is) (of_data_block_size words e was)

-- and so does a UUID
pub of_uuid : (words : FormatWords) (e : Failure) → uuid_in words.uuid.now ≡ Err e → Misreads words e
of_uuid words e is =
    let same = unread (parsed words.uuid.now) (failure.Word word.Uuid) e is in
    subst (Misreads words) (sym same) (is ∙ ap Err same)

-- each of them blames an argument
pub argument_of_number : {T : Type 0} (done : Result T Failure) (w : Word) (text : List ℕ) (e : Failure)
    → IsErrAnd done (λ other. other ≡ e) → number_in w text ≡ Err e → IfErr done IsOfArgument
argument_of_number (Ok done) w text e is was = tt
argument_of_number (Err other) w text e is was = subst IsOfArgument (sym is) (inl (w, by_number w text e was))

pub argument_of_uuid : {T : Type 0} (done : Result T Failure) (text : List ℕ) (e : Failure) → IsErrAnd done (λ other. other ≡ e)
    → uuid_in text ≡ Err e → IfErr done IsOfArgument
argument_of_uuid (Ok done) text e is was = tt
argument_of_uuid (Err other) text e is was =
    subst IsOfArgument (sym is) (inl (word.Uuid, unread (parsed text) (failure.Word word.Uuid) e was))

-- which isn't S1
pub never_s1 : {T : Type 0} (done : Result T Failure) (text : List ℕ) (e : Failure) → IsErrAnd done (λ other. other ≡ e)
    → uuid_in text ≡ Err e → IfErr done (IsS1For ⊥)
never_s1 (Ok done) text e is was = tt
never_s1 (Err other) text e is was = λ at. cc (sym (unread (parsed text) (failure.Word word.Uuid) e was) ∙ (sym is ∙ at))

-- what isn't understood is blamed
pub of_misread : {S F D J : Type 0} (facts : Ghosts S F D J) (s : S) (words : FormatWords) (e : Failure) → Misreads words e
    → FormatBlames facts s words e
of_misread facts s words (failure.Word word.Data) is_misread = absurd is_misread
of_misread facts s words (failure.Word word.Hash) is_misread = absurd is_misread
of_misread facts s words (failure.Word word.Salt) is_misread = is_misread
of_misread facts s words (failure.Word word.Uuid) is_misread = is_misread
of_misread facts s words (failure.Word word.DataBlocks) is_misread = is_misread
of_misread facts s words (failure.Word word.DataBlockSize) is_misread = is_misread
of_misread facts s words (failure.Word word.HashBlockSize) is_misread = is_misread
of_misread facts s words (failure.Word word.Algorithm) is_misread = is_misread
of_misread facts s words (failure.Word word.HashOffset) is_misread = is_misread
of_misread facts s words (failure.Word word.New) is_misread = is_misread
of_misread facts s words (failure.Word word.Journal) is_misread = is_misread
of_misread facts s words (failure.Word word.Cache) is_misread = is_misread
of_misread facts s words (failure.Word word.DataCache) is_misread = is_misread
of_misread facts s words (failure.Word word.Sessions) is_misread = is_misread
of_misread facts s words (failure.Word word.Memory) is_misread = is_misread
of_misread facts s words (failure.Word word.Idle) is_misread = is_misread
of_misread facts s words (failure.Word word.Stall) is_misread = is_misread
of_misread facts s words (failure.Word word.Timeout) is_misread = is_misread
of_misread facts s words (failure.Word word.Slice) is_misread = is_misread
of_misread facts s words (failure.Word word.TableFile) is_misread = is_misread
of_misread facts s words (failure.Word word.ToFile) is_misread = is_misread
of_misread facts s words (failure.Refused fault) is_misread = is_misread
of_misread facts s words failure.NoMemory is_misread = is_misread
of_misread facts s words failure.Output is_misread = is_misread

-- HASH is blamed where one file was opened at both paths
pub of_hash : {S F D J : Type 0} (facts : Ghosts S F D J) (s : S) (words : FormatWords) (e : Failure) → BlamesAtMost word.Hash e
    → (e ≡ failure.Word word.Hash → IsOneFile facts s words.data_path.now words.hash_path.now) → FormatBlames facts s words e
of_hash facts s words (failure.Word other) most is_one = subst (λ w. FormatBlames facts s words (failure.Word w)) (sym most)
    (inr (is_one (ap failure.Word most)))
of_hash facts s words (failure.Refused fault) most is_one = tt
of_hash facts s words failure.NoMemory most is_one = tt
of_hash facts s words failure.Output most is_one = tt
