use Rattle.verity_digest.proofs.TreeLaws
use Rattle.verity_digest.proofs.laws.fills_blocks.Goals as goal

pub returns : goal.returns
returns c = TreeLaws.fills_blocks
