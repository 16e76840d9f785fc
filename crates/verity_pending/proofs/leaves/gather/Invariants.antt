use Rattle.std.proofs.Common.{◌≡◌, ℕ, ◌<◌, length}
use Rattle.std.specs.Fork.{slice_chunk}
use Rattle.verity_pending.specs.Leaves.{written_or}
use Rattle.verity_pending.specs.Slots.{child_at}
use Rattle.verity_pending.proofs.leaves.gather.Given as goal

abbrev pub invariant-loop-j : goal.invariant-loop-j
invariant-loop-j g l =
    (k : ℕ) → k < l.j → slice_chunk l.run (length l.zero) k ≡ written_or l.written.entries l.zero (child_at l.leaves k).number
