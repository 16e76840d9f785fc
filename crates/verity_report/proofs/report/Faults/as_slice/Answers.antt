use Rattle.std.proofs.Common.{rules}
use Rattle.verity_report.proofs.report.Faults.as_slice.Goals as goal

pub returns : goal.returns
returns g c = search rules depth 0
