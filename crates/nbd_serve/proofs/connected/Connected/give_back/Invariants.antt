use Rattle.std.proofs.Common.{◌≡◌, ◌+◌, List, length}
use Rattle.nbd_serve.specs.Serving.{GoesOn}
use Rattle.nbd_connection.specs.Connections.{Visits}
use Rattle.nbd_serve.specs.Sockets.{AreKept}
use Rattle.nbd_serve.proofs.connected.Connected.give_back.Given as goal

abbrev pub invariant-each : goal.invariant-each
invariant-each g l = record {
  left : length l.self.clients.items + l._done ≡ l._done-end;
  goes_on : GoesOn g.E.Export.later l.fn.hub l.hub;
  kept : (begun : Visits) (leaving : List g.row.C.Denot) → AreKept g.E.Export.facts g.E.Export.later g.C.Connection.log begun l.fn.hub
      l.fn.self.clients.items leaving (g.L.Door.visits l.fn.door)
      → AreKept g.E.Export.facts g.E.Export.later g.C.Connection.log begun l.hub l.self.clients.items leaving (g.L.Door.visits l.door);
}
