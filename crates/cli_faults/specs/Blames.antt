-- Which argument a failure blames, and why a journal isn't read.
use Rattle.std.specs.Prelude.{◌≡◌, ⊤}
use Rattle.cli_faults.specs.declared.failure.Failure.{Failure}
use Rattle.cli_faults.specs.declared.failure.Failure.TheVariants as failure
use Rattle.cli_faults.specs.declared.failure.Word.{Word}
use Rattle.cli_faults.specs.declared.fault.Fault.{Fault}
use Rattle.cli_faults.specs.declared.fault.Fault.TheVariants as fault
use Rattle.verity_store.specs.declared.fault.StoreFault.{StoreFault}
use Rattle.verity_store.specs.declared.fault.StoreFault.TheVariants as store

-- no argument is blamed
abbrev pub BlamesNone : Failure → Type 0
BlamesNone (failure.Word word) = ⊥
BlamesNone _ = ⊤

-- no other argument than this one is blamed
abbrev pub BlamesAtMost : Word → Failure → Type 0
BlamesAtMost word (failure.Word other) = other ≡ word
BlamesAtMost word _ = ⊤

-- of a journal S3 for want of memory, S7 for all else
abbrev pub journal_fault_of : StoreFault → Fault
journal_fault_of store.NoMemory = fault.Store store.NoMemory
journal_fault_of _ = fault.Journal

-- a journal isn't read: want of memory, or S7, where the system refuses
abbrev pub IsUnread : Type 0 → Failure → Type 0
IsUnread refuses failure.NoMemory = ⊤
IsUnread refuses (failure.Refused fault.Journal) = refuses
IsUnread refuses _ = ⊥
