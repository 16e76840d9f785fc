use Rattle.verity_digest.proofs.TreeLaws
use Rattle.verity_digest.proofs.laws.counts_blocks.Goals as goal

pub returns : goal.returns
returns c = TreeLaws.counts_blocks
