-- What is notified of a READ.
use Rattle.std.specs.Prelude.{◌≡◌, ℕ, Result, Err}
use Rattle.verity_check.specs.declared.fault.CheckFault.{CheckFault}
use Rattle.verity_check.specs.declared.fault.CheckFault.TheVariants as check
use Rattle.verity_hub.specs.declared.notices.Notices as notices

-- of a READ that touches these data blocks, and was answered so: a refusal for a block, once; else nothing
abbrev pub IsNoticed : {N : Type 0} → notices.Ghosts N → (old new : N) → (first last : ℕ) → Result (Unit {0}) CheckFault → Type 0
IsNoticed facts old new first last (Err (check.Mismatch place)) = facts.notified old new (check.Mismatch place) first last
IsNoticed facts old new first last (Err (check.Store which)) = facts.notified old new (check.Store which) first last
IsNoticed facts old new first last answer = new ≡ old
