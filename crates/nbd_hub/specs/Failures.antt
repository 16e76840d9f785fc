-- How often the ends of a stream failed, and that the stream is left for that.
use Rattle.std.specs.Prelude.{◌≡◌, ◌<◌, ℕ, List, length, Result, Ok, Err}
use Rattle.nbd_hub.specs.declared.fault.ServeFault.{ServeFault}
use Rattle.nbd_hub.specs.declared.fault.ServeFault.TheVariants as fault

-- a call's failure is counted, and nothing else
abbrev pub CountsCall : {T E : Type 0} → (old new : ℕ) → Result T E → Type 0
CountsCall old new (Ok x) = new ≡ old
CountsCall old new (Err e) = old < new

-- a write is one where it failed, or took no byte of some
abbrev pub CountsWrite : {E : Type 0} → (old new : ℕ) → (bytes : List ℕ) → Result ℕ E → Type 0
CountsWrite old new bytes (Ok n) = (0 < n → new ≡ old) × (n ≡ 0 → 0 < length bytes → old < new)
CountsWrite old new bytes (Err e) = old < new

-- the reader failed where its stream was left for that, and nowhere else
abbrev pub FailsToRead : {T : Type 0} → (old new : ℕ) → Result T ServeFault → Type 0
FailsToRead old new (Ok x) = new ≡ old
FailsToRead old new (Err fault.Read) = old < new
FailsToRead old new (Err fault.Write) = new ≡ old
FailsToRead old new (Err fault.Turns) = new ≡ old
FailsToRead old new (Err fault.Starved) = new ≡ old
FailsToRead old new (Err (fault.Hub f)) = new ≡ old

-- the writer alike
abbrev pub FailsToWrite : {T : Type 0} → (old new : ℕ) → Result T ServeFault → Type 0
FailsToWrite old new (Ok x) = new ≡ old
FailsToWrite old new (Err fault.Read) = new ≡ old
FailsToWrite old new (Err fault.Write) = old < new
FailsToWrite old new (Err fault.Turns) = new ≡ old
FailsToWrite old new (Err fault.Starved) = new ≡ old
FailsToWrite old new (Err (fault.Hub f)) = new ≡ old
