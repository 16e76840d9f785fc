use Rattle.std.proofs.Common.{arith}
use Rattle.verity_pending.proofs.Drafts.{edits_grow}
use Rattle.verity_pending.specs.Pend.{draft}
use Rattle.verity_pending.proofs.pending.Pending.grow.Goals as goal

pub returns-clause-done : goal.returns-clause-done
returns-clause-done g c = λ image. rw (← c.self.view_is) (edits_grow image (draft c.self.inside) c.args.count c.self.invariant
    (omega arith))
