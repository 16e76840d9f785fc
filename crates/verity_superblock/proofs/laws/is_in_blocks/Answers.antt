use Rattle.verity_superblock.proofs.Blocks.{in_blocks}
use Rattle.verity_superblock.proofs.laws.is_in_blocks.Goals as goal

pub returns : goal.returns
returns c = in_blocks
