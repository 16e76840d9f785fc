use Rattle.verity_digest.proofs.TreeLaws
use Rattle.verity_digest.proofs.laws.lies_above.Goals as goal

pub returns : goal.returns
returns c = TreeLaws.lies_above
