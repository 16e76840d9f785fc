-- Why a gate isn't shut.
use Rattle.std.proofs.Common.{◌≡◌, sym, subst}
use Rattle.cli_faults.specs.declared.failure.Failure.{Failure}
use Rattle.cli_faults.specs.declared.failure.Failure.TheVariants as failure
use Rattle.cli_faults.specs.declared.fault.Fault.TheVariants as fault
use Rattle.os_commit_flag.specs.Refusals.{IsUnshut}

-- an open gate, and what is no journal, by the fault that tells of it
pub under_way : (shown unusable : Type 0) (e : Failure) → e ≡ failure.Refused fault.UnderWay → shown → IsUnshut shown unusable e
under_way shown unusable e is gate = subst (IsUnshut shown unusable) (sym is) gate

pub no_journal : (shown unusable : Type 0) (e : Failure) → e ≡ failure.Refused fault.Journal → unusable → IsUnshut shown unusable e
no_journal shown unusable e is gate = subst (IsUnshut shown unusable) (sym is) gate
