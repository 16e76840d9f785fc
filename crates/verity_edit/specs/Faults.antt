-- Why an opening, a commit and their parts fail: a store's failure is answered by its name, and none is passed over.
use Rattle.std.specs.Prelude.{◌≡◌, ℕ, ◌<◌, Result, Ok, Err}
use Rattle.verity_store.specs.declared.fault.Which.{Which}
use Rattle.verity_store.specs.declared.fault.Which.TheVariants as which
use Rattle.verity_build.specs.Faults.{HasFailed}
use Rattle.verity_pending.specs.declared.fault.EditFault.{EditFault}
use Rattle.verity_pending.specs.declared.fault.EditFault.TheVariants.{NoMemory, Store}

-- of a part that changes both stores
abbrev pub NamesFailed : {T : Type 0} → Result T Which → ℕ → ℕ → ℕ → ℕ → Type 0
NamesFailed (Ok done) data_old data_new hash_old hash_new = (data_new ≡ data_old) × (hash_new ≡ hash_old)
NamesFailed (Err store) data_old data_new hash_old hash_new = HasFailed (data_old < data_new) (hash_old < hash_new) store

-- of a whole commit
abbrev pub CommitsOrFails : {T : Type 0} → Result T EditFault → ℕ → ℕ → ℕ → ℕ → Type 0
CommitsOrFails (Ok made) data_old data_new hash_old hash_new = (data_new ≡ data_old) × (hash_new ≡ hash_old)
CommitsOrFails (Err NoMemory) data_old data_new hash_old hash_new = (data_new ≡ data_old) × (hash_new ≡ hash_old)
CommitsOrFails (Err (Store store)) data_old data_new hash_old hash_new = HasFailed (data_old < data_new) (hash_old < hash_new) store
CommitsOrFails (Err _) data_old data_new hash_old hash_new = ⊥

-- of a part of an opening that reads the hash store alone
abbrev pub ReadsOrFails : {T : Type 0} → Result T EditFault → ℕ → ℕ → Type 0
ReadsOrFails (Ok read) old new = new ≡ old
ReadsOrFails (Err (Store which.Data)) old new = ⊥
ReadsOrFails (Err (Store which.Hash)) old new = old < new
ReadsOrFails (Err _) old new = new ≡ old

-- of a whole opening: it is refused for another reason only where no store failed
abbrev pub IsNotPassedOver : ℕ → ℕ → ℕ → ℕ → EditFault → Type 0
IsNotPassedOver data_old data_new hash_old hash_new (Store store) = HasFailed (data_old < data_new) (hash_old < hash_new) store
IsNotPassedOver data_old data_new hash_old hash_new _ = (data_new ≡ data_old) × (hash_new ≡ hash_old)

abbrev pub OpensOrFails : {T : Type 0} → Result T EditFault → ℕ → ℕ → ℕ → ℕ → Type 0
OpensOrFails (Ok found) data_old data_new hash_old hash_new = (data_new ≡ data_old) × (hash_new ≡ hash_old)
OpensOrFails (Err fault) data_old data_new hash_old hash_new = IsNotPassedOver data_old data_new hash_old hash_new fault
