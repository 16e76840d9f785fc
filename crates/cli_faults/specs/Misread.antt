-- Texts that aren't understood as a word of a command.
use Rattle.std.specs.Prelude.{◌≡◌, ◌≢◌, ℕ, List, codes, None, Err}
use Rattle.cli_faults.specs.Words.{number_in, sessions_in, memory_in, timeout_in, salt_of, uuid_in}
use Rattle.cli_faults.specs.declared.failure.Failure.TheVariants as failure
use Rattle.cli_faults.specs.declared.failure.Word.{Word}
use Rattle.cli_faults.specs.declared.failure.Word.TheVariants as word

-- a text that isn't understood as this word
abbrev pub IsMisread : Word → List ℕ → Type 0
IsMisread word.Salt text = salt_of text ≡ None
IsMisread word.Uuid text = uuid_in text ≡ Err (failure.Word word.Uuid)
IsMisread word.Algorithm text = (text ≢ codes "sha256") × (text ≢ codes "sha512")
IsMisread word.Sessions text = sessions_in text ≡ Err (failure.Word word.Sessions)
IsMisread word.Memory text = memory_in text ≡ Err (failure.Word word.Memory)
IsMisread word.Timeout text = timeout_in text ≡ Err (failure.Word word.Timeout)
IsMisread number text = number_in number text ≡ Err (failure.Word number)
