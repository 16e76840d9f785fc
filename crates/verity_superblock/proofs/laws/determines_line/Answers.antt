use Rattle.verity_superblock.proofs.Canonical
use Rattle.verity_superblock.proofs.laws.determines_line.Goals as goal

pub returns : goal.returns
returns c = Canonical.determines_line
