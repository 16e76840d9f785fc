use Rattle.std.proofs.Common.{ℕ, ◌/◌, ◌^◌, bit_xor, ap, arith, slice_index}
use Rattle.std.specs.Int.{w64}
use Rattle.verity_digest_lanes.proofs.Rounds.{lane_lt}
use Rattle.verity_digest_lanes.proofs.Turned.{turned_two}
use Rattle.verity_digest_lanes.proofs.wide.lanes.small_sigma0.Goals as goal

pub returns : goal.returns
returns c j h =
    let x = slice_index c.args.x j in
    rw (c.xor.ensures j h, c.rotate_right-c.ensures j h, c.xor-b.ensures j h, c.rotate_right-a.ensures j h, c.shift_right-d.ensures j h)
    (ap (λ (y : ℕ). bit_xor y (x / 2 ^ 7)) (turned_two 64 x 1 7 (omega arith) (lane_lt w64 c.args.x 4 j c.fits-x.0 c.fits-x.1 h)))
