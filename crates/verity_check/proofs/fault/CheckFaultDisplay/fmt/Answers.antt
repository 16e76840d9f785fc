use Rattle.std.proofs.Common.{rules}
use Rattle.verity_check.proofs.fault.CheckFaultDisplay.fmt.Goals as goal

pub returns-in-Lengths-clause-writes : goal.returns-in-Lengths-clause-writes
returns-in-Lengths-clause-writes g c = search rules depth 0
