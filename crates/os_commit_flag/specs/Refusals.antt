-- Why a journal isn't opened, and why a check of its commit flag says no.
use Rattle.std.specs.Prelude.{⊤}
pub use Rattle.cli_faults.specs.Blames.{BlamesNone, BlamesAtMost, IsUnread}
use Rattle.cli_faults.specs.declared.failure.Failure.{Failure}
use Rattle.cli_faults.specs.declared.failure.Failure.TheVariants as failure
use Rattle.cli_faults.specs.declared.fault.Fault.{Fault}
use Rattle.cli_faults.specs.declared.fault.Fault.TheVariants as fault
use Rattle.verity_store.specs.declared.fault.StoreFault.TheVariants as store

-- a journal isn't opened: want of memory, or it can't be used
abbrev pub IsUnopened : Type 0 → Fault → Type 0
IsUnopened unusable (fault.Store store.NoMemory) = ⊤
IsUnopened unusable fault.Journal = unusable
IsUnopened unusable _ = ⊥

-- a gate isn't shut: want of memory, it is open, or its journal can't be used
abbrev pub IsUnshut : (under_way unusable : Type 0) → Failure → Type 0
IsUnshut under_way unusable failure.NoMemory = ⊤
IsUnshut under_way unusable (failure.Refused fault.UnderWay) = under_way
IsUnshut under_way unusable (failure.Refused fault.Journal) = unusable
IsUnshut under_way unusable _ = ⊥
