use Rattle.verity_digest.proofs.TreeLaws
use Rattle.verity_digest.proofs.laws.places_blocks.Goals as goal

pub returns : goal.returns
returns c = TreeLaws.places_blocks
