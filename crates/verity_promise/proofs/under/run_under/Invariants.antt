use Rattle.std.proofs.Common.{◌≡◌, ◌+◌, vec_len}
use Rattle.verity_promise.specs.OnTheWay.{AreAnsweredUnder}
use Rattle.verity_promise.proofs.under.run_under.Given as goal

pub record Ran (Answered Counted : Type 0) : Type 0 where
  pub answered : Answered
  pub counted : Counted

abbrev pub invariant-loop-command : goal.invariant-loop-command
invariant-loop-command g l =
    Ran (AreAnsweredUnder g.D.BlockStore g.H.BlockStore l.commands l.command-index l.initial.editor l.editor
    l.initial.replies.items l.replies.items) (vec_len l.replies ≡ vec_len l.initial.replies + l.command-index)
