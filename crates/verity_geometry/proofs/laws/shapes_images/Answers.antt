use Rattle.verity_geometry.proofs.OfShape
use Rattle.verity_geometry.proofs.laws.shapes_images.Goals as goal

pub returns : goal.returns
returns c = OfShape.shapes_images c.args.geometry.now c.levels.ensures.shaped
