use Rattle.std.proofs.Common.{arith, slice_index}
use Rattle.std.specs.Int.{w64}
use Rattle.verity_digest_lanes.proofs.Rounds.{lane_lt}
use Rattle.verity_digest_lanes.proofs.Turned.{turned_three}
use Rattle.verity_digest_lanes.proofs.wide.lanes.big_sigma1.Goals as goal

pub returns : goal.returns
returns c j h =
    rw (c.rotate_right.ensures j h, c.xor-d.ensures j h, c.rotate_right-c.ensures j h, c.xor-b.ensures j h, c.rotate_right-a.ensures j h)
    (turned_three 64 (slice_index c.args.x j) 14 4 23 (omega arith) (lane_lt w64 c.args.x 4 j c.fits-x.0 c.fits-x.1 h))
