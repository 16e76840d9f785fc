use Rattle.std.proofs.Common.{◌≡◌, ◌++◌, List, length}
use Rattle.nbd_session.specs.Export.{Keeps}
use Rattle.nbd_hub.specs.declared.events.HubReply.{HubReply}
use Rattle.nbd_hub.specs.History.{Step, steps}
use Rattle.nbd_hub.specs.After.{AsksOn, EachAfter, Given, IsAfter}
use Rattle.nbd_hub.proofs.sessions.Sessions.run.Given as goal

abbrev pub invariant-loop-event : goal.invariant-loop-event
invariant-loop-event g l =
    let facts = g.E.Export.facts in
    record {
      offer : l.self.0.offer ≡ l.fn.self.0.offer;
      keeps : Keeps (facts l.fn.self.1) (facts l.self.1);
      later : g.E.Export.later l.fn.self.1 l.self.1;
      ran : (added : List (HubReply g.row.A.Denot)) × (l.replies.items ≡ l.fn.replies.items ++ added) × (length added ≡ l.event-index)
          × ((history : List Step) → IsAfter (facts l.fn.self.1) l.fn.self.0 history
          → EachAfter (AsksOn g.E.Export.later facts) (λ e. Given (facts e)) l.fn.self.1 l.self.1 l.fn.self.0.offer history l.events added
          × IsAfter (facts l.self.1) l.self.0 (history ++ steps l.events added));
    }
