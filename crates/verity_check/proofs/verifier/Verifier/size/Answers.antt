use Rattle.std.proofs.Common.{rules}
use Rattle.verity_check.proofs.verifier.Verifier.size.Goals as goal

pub returns-clause-value : goal.returns-clause-value
returns-clause-value g c = search rules depth 0
