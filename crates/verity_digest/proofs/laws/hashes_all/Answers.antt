use Rattle.verity_digest.proofs.TreeLaws
use Rattle.verity_digest.proofs.laws.hashes_all.Goals as goal

pub returns : goal.returns
returns c = TreeLaws.hashes_all
