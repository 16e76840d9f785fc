use Rattle.std.proofs.Common.{refl, sym, arith}
use Rattle.sha2.proofs.Schedule256.{rounds_first}
use Rattle.verity_digest_lanes.specs.Lanes.{lane, window_of}
use Rattle.verity_digest_lanes.proofs.Rounds.{window_at}
use Rattle.verity_digest_lanes.proofs.lanes.first_step.Goals as goal

pub returns : goal.returns
returns c = λ j lt b h window held.
    rounds_first b h (window_of j c.args.w.now) (lane j c.args.v) c.args.t _ _ _ c.requires window held refl
    (sym (window_at j c.args.w.now c.args.t (omega arith))) (c.round.ensures j lt)
