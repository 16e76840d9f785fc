use Rattle.verity_superblock.proofs.SuperblockLaws
use Rattle.verity_superblock.proofs.laws.determines.Goals as goal

pub returns : goal.returns
returns c = SuperblockLaws.determines
