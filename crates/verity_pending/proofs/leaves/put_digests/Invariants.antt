use Rattle.std.proofs.Common.{◌≡◌, ℕ, ◌<◌, ◌≤◌, []}
use Rattle.std.specs.Prelude.{slice_index_or}
use Rattle.verity_pending.specs.Slots.{child_at}
use Rattle.verity_pending.proofs.leaves.put_digests.Given as goal

abbrev pub invariant-loop-j : goal.invariant-loop-j
invariant-loop-j l = record {
  made : (k : ℕ) → k < l.j → child_at l.leaves k
      ≡ record { number = (child_at l.initial.leaves k).number; digest = slice_index_or l.digests k [] };
  rest : (k : ℕ) → l.j ≤ k → child_at l.leaves k ≡ child_at l.initial.leaves k;
}
