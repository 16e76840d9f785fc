-- Why a volume isn't opened or read.
use Rattle.std.specs.Prelude.{◌≡◌, ⊤}
use Rattle.verity_store.specs.declared.fault.StoreFault.TheVariants as store
use Rattle.verity_store.specs.declared.fault.Which.{Which}
use Rattle.cli_faults.specs.declared.fault.Fault.{Fault}
use Rattle.cli_faults.specs.declared.fault.Fault.TheVariants as fault
use Rattle.verity_pending.specs.declared.fault.EditFault.TheVariants as edit

-- the hash device can't be read, with S1 for this reason, or no superblock stands there
abbrev pub IsOfSuperblock : Type 0 → Fault → Type 0
IsOfSuperblock reason (fault.Store other) = other ≡ store.Device → reason
IsOfSuperblock reason (fault.Superblock other) = ⊤
IsOfSuperblock reason _ = ⊥

-- a file can't be opened as a store, with S1 for this reason, or this store isn't what it was
abbrev pub IsOfStore : Type 0 → Which → Fault → Type 0
IsOfStore reason which (fault.Store other) = other ≡ store.Device → reason
IsOfStore reason which (fault.Edit (edit.Store other)) = other ≡ which
IsOfStore reason which _ = ⊥

-- a file of either store can't be used, with S1 for this reason
abbrev pub IsOfStores : Type 0 → Fault → Type 0
IsOfStores reason (fault.Store other) = other ≡ store.Device → reason
IsOfStores reason (fault.Edit (edit.Store which)) = ⊤
IsOfStores reason _ = ⊥
