use Rattle.std.proofs.Common.{◌≤◌, ◌-◌, ◌++◌, ℕ, List, length, take, drop, All}
use Rattle.nbd_session.specs.declared.phase.Phase.TheVariants.{Transmission}
use Rattle.nbd_session.specs.Talk.{hear}
use Rattle.nbd_session.specs.Export.{IsWithin}
use Rattle.nbd_session.specs.Announcing.{AsksFirst}
use Rattle.nbd_session.proofs.ahead.note.Given as goal

abbrev pub invariant-loop-noted : goal.invariant-loop-noted
invariant-loop-noted l = record {
  few : l.noted ≤ length l.ranges;
  place : l.place ≤ length l.waiting;
  within : All (IsWithin l.offer.size) (take l.noted l.ranges);
  asks : (more : List (ℕ × ℕ)) → AsksFirst more (hear l.offer Transmission (drop l.place l.waiting)).answers
      → AsksFirst (take l.noted l.ranges ++ more) (hear l.offer Transmission l.waiting).answers;
}

abbrev pub decreases-loop-noted : goal.decreases-loop-noted
decreases-loop-noted l = length l.ranges - l.noted
