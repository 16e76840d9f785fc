use Rattle.verity_superblock.proofs.SuperblockLaws
use Rattle.verity_superblock.proofs.laws.reads_back.Goals as goal

pub returns : goal.returns
returns c = SuperblockLaws.reads_back
