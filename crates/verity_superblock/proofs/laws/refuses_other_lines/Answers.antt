use Rattle.verity_superblock.proofs.Canonical
use Rattle.verity_superblock.proofs.laws.refuses_other_lines.Goals as goal

pub returns : goal.returns
returns c = Canonical.refuses_other_lines
