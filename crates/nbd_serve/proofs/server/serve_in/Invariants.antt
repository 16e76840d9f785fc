use Rattle.std.proofs.Common.{◌≡◌, [], false}
use Rattle.nbd_serve.specs.Lines.{standing, Tells}
use Rattle.nbd_serve.specs.Serving.{GoesOn}
use Rattle.nbd_connection.specs.Connections.{Visits}
use Rattle.nbd_serve.specs.Sockets.{AreKept}
use Rattle.nbd_serve.proofs.server.serve_in.Given as goal

abbrev pub invariant-loop : goal.invariant-loop
invariant-loop g l = record {
  goes_on : GoesOn g.E.Export.later l.fn.hub l.hub;
  sessions : l.room.sessions ≡ l.fn.room.sessions;
  told : Tells (g.W.Write.contents l.fn.output) (g.W.Write.contents l.output) (standing 0 0 [] false)
      (standing l.room.ended l.room.accepted l.room.connected.numbers.items l.room.faulty);
  kept : (begun : Visits) → AreKept g.E.Export.facts g.E.Export.later g.L.Connection.Connection.log begun l.fn.hub
      l.fn.room.connected.clients.items l.fn.room.partings.leaving.items (g.L.Door.visits l.fn.door)
      → AreKept g.E.Export.facts g.E.Export.later g.L.Connection.Connection.log begun l.hub l.room.connected.clients.items
      l.room.partings.leaving.items (g.L.Door.visits l.door);
}
