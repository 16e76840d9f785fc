use Rattle.verity_digest_lanes.proofs.Rounds.{maj_at}
use Rattle.verity_digest_lanes.proofs.lanes.maj.Goals as goal

pub returns : goal.returns
returns c j h = maj_at c.args.x c.args.y c.args.z 8 j c.fits-x.0 c.fits-y.0 c.fits-z.0 h
