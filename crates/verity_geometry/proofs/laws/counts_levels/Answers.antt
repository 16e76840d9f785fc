use Rattle.verity_geometry.proofs.OfShape
use Rattle.verity_geometry.proofs.laws.counts_levels.Goals as goal

pub returns : goal.returns
returns c h image of = OfShape.counts_levels c.args.geometry.now h image of
