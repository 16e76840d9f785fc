use Rattle.std.proofs.Common.{◌-◌}
use Rattle.verity_chain.specs.Table.{height}
use Rattle.verity_chain.proofs.notes.+fetch.Given as goal

abbrev pub decreases-fetch : goal.decreases-fetch
decreases-fetch g l = height l.tree.now - l.level
