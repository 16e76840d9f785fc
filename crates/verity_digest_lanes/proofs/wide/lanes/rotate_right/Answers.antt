use Rattle.verity_digest_lanes.proofs.Rounds.{wide_shifts_rotate}
use Rattle.verity_digest_lanes.proofs.wide.lanes.rotate_right.Goals as goal

pub returns : goal.returns
returns c j h = wide_shifts_rotate 4 c.args.k c.requires.0 c.requires.1 c.args.x c.fits-x.0 j h
