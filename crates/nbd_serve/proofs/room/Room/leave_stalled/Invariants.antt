use Rattle.std.proofs.Common.{◌≡◌}
use Rattle.nbd_serve.specs.Lines.{standing, Tells}
use Rattle.nbd_serve.specs.Serving.{GoesOn}
use Rattle.nbd_connection.specs.Connections.{Visits}
use Rattle.nbd_serve.specs.Sockets.{AreKept}
use Rattle.nbd_serve.proofs.room.Room.leave_stalled.Given as goal

abbrev pub invariant-loop : goal.invariant-loop
invariant-loop g l = record {
  goes_on : GoesOn g.E.Export.later l.fn.hub l.hub;
  sessions : l.self.sessions ≡ l.fn.self.sessions;
  told : Tells (g.W.Write.contents l.fn.output) (g.W.Write.contents l.output)
      (standing l.fn.self.ended l.fn.self.accepted l.fn.self.connected.numbers.items l.fn.self.faulty)
      (standing l.self.ended l.self.accepted l.self.connected.numbers.items l.self.faulty);
  kept : (begun : Visits) → AreKept g.E.Export.facts g.E.Export.later g.C.Connection.log begun l.fn.hub
      l.fn.self.connected.clients.items l.fn.self.partings.leaving.items (g.L.Door.visits l.fn.door)
      → AreKept g.E.Export.facts g.E.Export.later g.C.Connection.log begun l.hub l.self.connected.clients.items
      l.self.partings.leaving.items (g.L.Door.visits l.door);
}
