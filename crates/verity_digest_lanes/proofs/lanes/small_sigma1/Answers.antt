use Rattle.std.proofs.Common.{ℕ, ◌/◌, ◌^◌, bit_xor, ap, arith, slice_index}
use Rattle.std.specs.Int.{w32}
use Rattle.verity_digest_lanes.proofs.Rounds.{lane_lt}
use Rattle.verity_digest_lanes.proofs.Turned.{turned_two}
use Rattle.verity_digest_lanes.proofs.lanes.small_sigma1.Goals as goal

pub returns : goal.returns
returns c j h =
    let x = slice_index c.args.x j in
    rw (c.xor.ensures j h, c.rotate_right-c.ensures j h, c.xor-b.ensures j h, c.rotate_right-a.ensures j h, c.shift_right-d.ensures j h)
    (ap (λ (y : ℕ). bit_xor y (x / 2 ^ 10)) (turned_two 32 x 17 2 (omega arith) (lane_lt w32 c.args.x 8 j c.fits-x.0 c.fits-x.1 h)))
