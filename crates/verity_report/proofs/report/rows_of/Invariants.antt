use Rattle.std.proofs.Common.{◌≡◌, ◌∷◌, replicate}
use Rattle.verity_report.specs.Descent.{blank}
use Rattle.verity_report.proofs.report.rows_of.Given as goal

abbrev pub invariant-loop : goal.invariant-loop
invariant-loop g l = l.rows.items ≡ blank 0 ∷ replicate l.counter (blank l.size)
