use Rattle.std.proofs.Common.{◌≡◌, ◌≤◌, ◌+◌, ◌-◌, ◌*◌, ◌^◌, suc}
use Rattle.verity_chain.specs.Table.{path_index}
use Rattle.verity_slice_report.specs.Sliced.{below}
use Rattle.verity_slice_report.proofs.kept.count_below.Given as goal

abbrev pub invariant-loop-row : goal.invariant-loop-row
invariant-loop-row l = record {
  low : l.row ≤ l.level + 1;
  first : l.places.first ≤ path_index l.tree (l.run.end - 1) l.row;
  few : l.count + l.row * 2 ^ 40 ≤ 15 * 2 ^ 40;
  counted : l.count + below l.tree l.run l.row l.places
      ≡ below l.tree l.run (suc l.level) (record { first = l.index; end = l.index + 1 });
}

abbrev pub decreases-loop-row : goal.decreases-loop-row
decreases-loop-row l = l.row
