use Rattle.verity_geometry.proofs.OfShape
use Rattle.verity_geometry.proofs.laws.starts_rise.Goals as goal

pub returns : goal.returns
returns c grows = OfShape.starts_rise c.args.small.now c.args.large.now c.levels.ensures.shaped grows
