use Rattle.verity_superblock.proofs.SuperblockLaws
use Rattle.verity_superblock.proofs.laws.refuses_the_rest.Goals as goal

pub returns : goal.returns
returns c = SuperblockLaws.refuses_the_rest
