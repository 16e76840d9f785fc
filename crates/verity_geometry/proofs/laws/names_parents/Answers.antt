use Rattle.verity_geometry.proofs.OfShape
use Rattle.verity_geometry.proofs.laws.names_parents.Goals as goal

pub returns : goal.returns
returns c h image of = OfShape.names_parents c.args.geometry.now h image of
