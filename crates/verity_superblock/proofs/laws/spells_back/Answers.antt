use Rattle.verity_superblock.proofs.Canonical
use Rattle.verity_superblock.proofs.laws.spells_back.Goals as goal

pub returns : goal.returns
returns c = Canonical.spells_back
