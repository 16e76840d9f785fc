use Rattle.verity_geometry.proofs.OfShape
use Rattle.verity_geometry.proofs.laws.climbs_from.Goals as goal

pub returns : goal.returns
returns c = OfShape.climbs_from c.args.geometry.now c.levels.ensures.shaped
