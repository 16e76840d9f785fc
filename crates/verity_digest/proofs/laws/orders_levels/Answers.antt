use Rattle.verity_digest.proofs.TreeLaws
use Rattle.verity_digest.proofs.laws.orders_levels.Goals as goal

pub returns : goal.returns
returns c = TreeLaws.orders_levels
