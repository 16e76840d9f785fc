use Rattle.std.proofs.Common.{rules}
use Rattle.verity_report.proofs.ahead.agreeing.Goals as goal

pub returns-clause-same : goal.returns-clause-same
returns-clause-same c = search rules depth 0
