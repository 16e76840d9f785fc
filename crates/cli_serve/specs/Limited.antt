-- What clients may take of `serve`.
use Rattle.std.specs.Prelude.{◌≡◌, ◌<◌, ◌*◌, ◌^◌, ℕ, Option, Some, None, Ok}
use Rattle.std.specs.Duration.{as_nanos}
use Rattle.std.specs.declared.time.Duration.{Duration}
use Rattle.nbd_connection.specs.declared.limits.Limits.{Limits}
use Rattle.cli_faults.specs.Words.{number_in, memory_in}
use Rattle.cli_faults.specs.declared.failure.Word.TheVariants as word
use Rattle.cli_arguments.specs.declared.words.serve.ServeWords.{ServeWords}

-- so many seconds, or no time, of none
abbrev pub IsTimeOf : (seconds : ℕ) → Option Duration → Type 0
IsTimeOf seconds None = seconds ≡ 0
IsTimeOf seconds (Some time) = (0 < seconds) × (as_nanos time ≡ seconds * 1000000000)

-- the limits that these words set
pub record AreLimitsOf (words : ServeWords) (limits : Limits) : Type 0 where
  pub pending : (mebibytes : ℕ) × (memory_in words.memory.now ≡ Ok mebibytes) × (limits.pending ≡ mebibytes * 2 ^ 20)
  pub idle : (seconds : ℕ) × (number_in word.Idle words.idle.now ≡ Ok seconds) × IsTimeOf seconds limits.idle
  pub stall : (seconds : ℕ) × (number_in word.Stall words.stall.now ≡ Ok seconds) × IsTimeOf seconds limits.stall
