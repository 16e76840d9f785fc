use Rattle.verity_digest_lanes.proofs.Rounds.{splat_at}
use Rattle.verity_digest_lanes.proofs.wide.lanes.add_word.Goals as goal

pub returns : goal.returns
returns c j h = splat_at _ c.args.a 4 j c.args.k c.fits-a.0 h
