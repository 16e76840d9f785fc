use Rattle.std.proofs.Common.{◌≤◌, ◌-◌, length, take}
use Rattle.nbd_session.specs.Export.{Keeps}
use Rattle.nbd_session.specs.Conversation.{AppendsMove}
use Rattle.nbd_session.specs.Inbox.{IsInForm}
use Rattle.nbd_session.proofs.conversation.turns.Given as goal

abbrev pub invariant-loop-done : goal.invariant-loop-done
invariant-loop-done g l =
    let facts = g.E.Export.facts in
    record {
      within : l.done ≤ length l.piece;
      keeps : Keeps (facts l.fn.export) (facts l.export);
      later : g.E.Export.later l.fn.export l.export;
      form : IsInForm l.inbox;
      moves : AppendsMove (facts l.fn.export) (facts l.export) l.offer l.fn.inbox l.inbox (take l.done l.piece) l.fn.out.items l.out.items;
    }

abbrev pub decreases-loop-done : goal.decreases-loop-done
decreases-loop-done g l = length l.piece - l.done
