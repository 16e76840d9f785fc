use Rattle.verity_digest_lanes.proofs.Rounds.{splat_at}
use Rattle.verity_digest_lanes.proofs.lanes.shift_right.Goals as goal

pub returns : goal.returns
returns c j h = splat_at _ c.args.x 8 j c.args.k c.fits-x.0 h
