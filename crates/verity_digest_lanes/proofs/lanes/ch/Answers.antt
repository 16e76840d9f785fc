use Rattle.std.specs.Int.{w32}
use Rattle.verity_digest_lanes.proofs.Rounds.{ch_at}
use Rattle.verity_digest_lanes.proofs.lanes.ch.Goals as goal

pub returns : goal.returns
returns c j h = ch_at w32 c.args.x c.args.y c.args.z 8 j c.fits-x.0 c.fits-y.0 c.fits-z.0 h
