use Rattle.verity_digest_lanes.proofs.Rounds.{shifts_rotate}
use Rattle.verity_digest_lanes.proofs.lanes.rotate_right.Goals as goal

pub returns : goal.returns
returns c j h = shifts_rotate 8 c.args.k c.requires.0 c.requires.1 c.args.x c.fits-x.0 j h
