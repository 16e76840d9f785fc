use Rattle.std.specs.Int.{w64}
use Rattle.verity_digest_lanes.proofs.Rounds.{ch_at}
use Rattle.verity_digest_lanes.proofs.wide.lanes.ch.Goals as goal

pub returns : goal.returns
returns c j h = ch_at w64 c.args.x c.args.y c.args.z 4 j c.fits-x.0 c.fits-y.0 c.fits-z.0 h
