use Rattle.verity_digest.proofs.TreeLaws
use Rattle.verity_digest.proofs.laws.has_no_level.Goals as goal

pub returns : goal.returns
returns c = TreeLaws.has_no_level
