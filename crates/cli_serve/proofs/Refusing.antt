-- Refusals that aren't S1, and what holds where a command is done.
use Rattle.std.proofs.Common.{◌≡◌, Result, Ok, Err, IfErr, OnOk, sym, ◌∙◌}
use Rattle.cli_faults.specs.Errors.{IsS1For}
use Rattle.cli_faults.specs.declared.failure.Failure.{Failure}
use Rattle.cli_faults.specs.declared.failure.Failure.TheVariants as failure

-- what is never S1 is so only for any reason
pub of_none : {T : Type 0} (reason : Type 0) (done : Result T Failure) → IfErr done (IsS1For ⊥) → IfErr done (IsS1For reason)
of_none reason (Ok status) never = tt
of_none reason (Err e) never = λ is. absurd (never is)

-- nor is want of memory
pub of_memory : {T : Type 0} (reason : Type 0) (done : Result T Failure) → IfErr done (λ e. e ≡ failure.NoMemory)
    → IfErr done (IsS1For reason)
of_memory reason (Ok status) is = tt
of_memory reason (Err e) is = λ at. absurd (cc (sym is ∙ at))

-- what holds, holds where it is done
pub on_ok : {T E P : Type 0} (done : Result T E) → P → OnOk done P
on_ok (Ok status) is = is
on_ok (Err e) is = tt
