use Rattle.std.proofs.Common.{◌++◌, ◌≡◌, ◌≤◌, length}
use Rattle.verity_report.specs.Descent.{faults_below}
use Rattle.verity_report.proofs.report.joined.Given as goal

abbrev pub invariant-loop-row : goal.invariant-loop-row
invariant-loop-row g l = record {
  low : l.row ≤ length l.rows;
  joined : l.faults.items ++ faults_below l.rows l.row ≡ faults_below l.rows (length l.rows);
}

abbrev pub decreases-loop-row : goal.decreases-loop-row
decreases-loop-row g l = l.row
