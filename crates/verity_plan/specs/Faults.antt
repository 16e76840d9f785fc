-- Why a plan fails: the hash store's failure is answered by its name, and none is passed over.
use Rattle.std.specs.Prelude.{◌≡◌, ℕ, ◌<◌, Result, Ok, Err}
use Rattle.verity_store.specs.declared.fault.Which.TheVariants as which
use Rattle.verity_pending.specs.declared.fault.EditFault.{EditFault}
use Rattle.verity_pending.specs.declared.fault.EditFault.TheVariants.{NoMemory, Store}

-- of a part that reads the hash store alone, whose failures are counted before and after it
abbrev pub PlansOrFails : {T : Type 0} → Result T EditFault → ℕ → ℕ → Type 0
PlansOrFails (Ok made) old new = new ≡ old
PlansOrFails (Err NoMemory) old new = new ≡ old
PlansOrFails (Err (Store which.Hash)) old new = old < new
PlansOrFails (Err _) old new = ⊥
