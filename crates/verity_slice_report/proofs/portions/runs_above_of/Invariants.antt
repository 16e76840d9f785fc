use Rattle.std.proofs.Common.{◌≡◌}
use Rattle.verity_slice_report.specs.Runs.{level_runs}
use Rattle.verity_slice_report.proofs.portions.runs_above_of.Given as goal

abbrev pub invariant-loop-level : goal.invariant-loop-level
invariant-loop-level l = l.runs.items ≡ level_runs l.tree l.run l.level
