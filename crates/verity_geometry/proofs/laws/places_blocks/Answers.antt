use Rattle.verity_geometry.proofs.OfShape
use Rattle.verity_geometry.proofs.laws.places_blocks.Goals as goal

pub returns : goal.returns
returns c h image of = OfShape.places_blocks c.args.geometry.now h image of
