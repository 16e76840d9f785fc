use Rattle.std.proofs.Common.{ℕ, ◌<◌, ◌≤◌, ◌⊎◌, Contains, IsPermutation, slice_index_or}
use Rattle.verity_slice.specs.Slices.{IsIn}
use Rattle.verity_slice.specs.declared.run.Run.{Run}
use Rattle.verity_slice.proofs.run.cover.Given as goal

abbrev pub invariant-loop-i : goal.invariant-loop-i
invariant-loop-i g l = record {
  reached : (q : ℕ) → q < l.reach → (run : Run) × Contains l.runs.items run × IsIn run q;
  past : (j : ℕ) (d : Run) → j < l.i
      → ((slice_index_or l.runs.items j d).end ≤ l.reach) ⊎ (l.reach < (slice_index_or l.runs.items j d).first);
  moved : IsPermutation l.fn.runs.items l.runs.items;
}
