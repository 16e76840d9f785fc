use Rattle.std.proofs.Common.{◌≡◌, ◌+◌, ◌%◌, arith, refl}
use Rattle.verity_digest_lanes.proofs.Rounds.{window_at}
use Rattle.verity_digest_lanes.proofs.lanes.next_word.Goals as goal

pub returns-clause-value : goal.returns-clause-value
returns-clause-value c j h =
    let at : c.args.place % 16 ≡ c.args.place = omega arith in
    let w = c.args.w.now in
    rw (
      c.add-word.ensures j h,
      c.add-sum3.ensures j h,
      c.add-sum2.ensures j h,
      c.small_sigma1-a.ensures j h,
      c.small_sigma0-c.ensures j h,
      at,
      window_at j w ((c.args.place + 14) % 16) (omega arith),
      window_at j w ((c.args.place + 9) % 16) (omega arith),
      window_at j w ((c.args.place + 1) % 16) (omega arith),
      window_at j w c.args.place (omega arith),
    ) refl
