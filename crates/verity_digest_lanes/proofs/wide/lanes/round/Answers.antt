use Rattle.std.proofs.Common.{refl}
use Rattle.verity_digest_lanes.proofs.wide.lanes.round.Goals as goal

pub returns : goal.returns
returns c j h =
    rw (
      c.add-first.ensures j h,
      c.add-fifth.ensures j h,
      c.add-temp2.ensures j h,
      c.add-temp1.ensures j h,
      c.add_word-sum4.ensures j h,
      c.add-sum3.ensures j h,
      c.add-sum2.ensures j h,
      c.big_sigma1-s1.ensures j h,
      c.ch-choice.ensures j h,
      c.big_sigma0-s0.ensures j h,
      c.maj-most.ensures j h,
    ) refl
