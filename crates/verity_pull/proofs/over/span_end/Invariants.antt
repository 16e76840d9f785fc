use Rattle.std.proofs.Common.{◌≡◌, ℕ, suc, ◌+◌, ◌<◌, ◌≤◌}
use Rattle.verity_chain.specs.Table.{path_index}
use Rattle.verity_pull.proofs.over.span_end.Given as goal

abbrev pub invariant-loop-row : goal.invariant-loop-row
invariant-loop-row g l =
    let t = l.fn.tree in
    record {
      row : l.row ≤ suc l.level;
      within : l.row < suc l.level → l.end ≤ t.data_blocks;
      span : (j : ℕ) → j < t.data_blocks → path_index t j l.row < l.end
          → path_index t j (suc l.level) < suc (path_index t l.n (suc l.level));
    }

abbrev pub decreases-loop-row : goal.decreases-loop-row
decreases-loop-row g l = l.row
