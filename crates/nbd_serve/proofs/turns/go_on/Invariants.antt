use Rattle.std.proofs.Common.{◌≡◌, ◌⊎◌, List, length}
use Rattle.nbd_hub.specs.History.{Step}
use Rattle.nbd_hub.specs.After.{IsAfter}
use Rattle.nbd_hub.specs.declared.fault.ServeFault.TheVariants as fault
use Rattle.nbd_relay.specs.Clients.{Log, AllServed, RunsOn}
use Rattle.nbd_serve.specs.Pending.{IsWithin, IsHungry}
use Rattle.nbd_serve.specs.Serving.{GoesOn}
use Rattle.nbd_serve.specs.declared.turns.Came.TheVariants as came
use Rattle.nbd_serve.proofs.turns.go_on.Given as goal

abbrev pub invariant-loop : goal.invariant-loop
invariant-loop g l =
    let facts = g.E.Export.facts in
    record {
      count : length l.clients ≡ length l.fn.clients;
      goes_on : GoesOn g.E.Export.later l.fn.hub l.hub;
      budget : IsWithin l.budget.limit l.budget.share l.fn.clients →
          IsWithin l.budget.limit l.budget.share l.clients ⊎ (l.came ≡ came.Failed fault.Starved);
      hungry : l.came ≡ came.Hungry → IsHungry l.budget.share (facts l.hub.1) l.hub.0 l.clients l.at;
      serves : (history : List Step) (logs : List Log) → IsAfter (facts l.fn.hub.1) l.fn.hub.0 history →
          AllServed l.fn.hub.0.offer history l.fn.clients logs
          → RunsOn g.S.Stream.remaining g.S.Stream.received g.S.Stream.contents (facts l.hub.1) l.hub.0 history l.fn.clients l.clients logs;
    }
