use Rattle.std.proofs.Common.{◌≤◌, ℕ, length}
use Rattle.nbd_hub.specs.Sessions.{HubState}
use Rattle.nbd_connection.specs.Connections.{Visits}
use Rattle.nbd_serve.specs.Sockets.{AreTold}
use Rattle.nbd_serve.proofs.partings.Partings.hear.Given as goal

abbrev pub invariant-each : goal.invariant-each
invariant-each g l = record {
  count : length l.self.leaving.items ≤ length l.fn.self.leaving.items;
  told : (begun : Visits) (hub : HubState × g.row.E.Denot) (connected : ℕ)
      → AreTold g.E.Export.facts g.E.Export.later g.C.Connection.log begun hub connected l.fn.self.leaving.items (g.L.Door.visits l.fn.door)
      → AreTold g.E.Export.facts g.E.Export.later g.C.Connection.log begun hub connected l.self.leaving.items (g.L.Door.visits l.door);
}
