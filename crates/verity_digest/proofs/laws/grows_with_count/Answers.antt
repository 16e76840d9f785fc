use Rattle.verity_digest.proofs.TreeLaws
use Rattle.verity_digest.proofs.laws.grows_with_count.Goals as goal

pub returns : goal.returns
returns c = TreeLaws.grows_with_count
