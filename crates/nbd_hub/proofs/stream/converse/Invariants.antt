use Rattle.std.proofs.Common.{◌≡◌, ◌≤◌, ◌*◌, List, ℕ, Some, length, false}
use Rattle.nbd_session.specs.Export.{Keeps}
use Rattle.nbd_session.specs.Session.{State, IsAt, Talked}
use Rattle.nbd_hub.specs.History.{Step}
use Rattle.nbd_hub.specs.Sessions.{SetsOnly}
use Rattle.nbd_hub.specs.After.{IsAfter}
use Rattle.nbd_hub.specs.Stream.{Moved, HasEnded, turn_bytes, TurnedAfter}
use Rattle.nbd_hub.proofs.stream.converse.Given as goal

abbrev pub invariant-loop-turn : goal.invariant-loop-turn
invariant-loop-turn g l =
    let facts = g.E.Export.facts in
    record {
      offer : l.hub.0.offer ≡ l.fn.hub.0.offer;
      keeps : Keeps (facts l.fn.hub.1) (facts l.hub.1);
      later : g.E.Export.later l.fn.hub.1 l.hub.1;
      read : g.R.Input.failures l.reader ≡ g.R.Input.failures l.fn.reader;
      wrote : g.W.Output.failures l.writer ≡ g.W.Output.failures l.fn.writer;
      next : l.hub.0.next ≡ l.fn.hub.0.next;
      count : length l.hub.0.sessions ≡ length l.fn.hub.0.sessions;
      after : (history : List Step) → IsAfter (facts l.fn.hub.1) l.fn.hub.0 history → TurnedAfter (facts l.hub.1) l.hub.0 history l.id;
      ran : (input : List ℕ) × (said : List ℕ) × (session : State)
          × Moved (record {
            reader = g.R.Input.remaining l.fn.reader;
            reader' = g.R.Input.remaining l.reader;
            writer = g.W.Output.contents l.fn.writer;
            writer' = g.W.Output.contents l.writer;
          }) input said
          × Talked (facts l.fn.hub.1) (facts l.hub.1) l.fn.hub.0.offer input said
          × IsAt session input × (session.starved ≡ false) × (session.offer ≡ l.fn.hub.0.offer)
          × SetsOnly l.fn.hub.0.sessions l.hub.0.sessions l.id (Some session)
          × (l.turn ≤ length input) × (length input ≤ turn_bytes * l.turn) × (HasEnded l.fn.hub.0.offer input → ⊥);
    }
