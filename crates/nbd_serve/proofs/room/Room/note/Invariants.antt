use Rattle.std.proofs.Common.{◌≡◌}
use Rattle.nbd_serve.specs.Lines.{standing}
use Rattle.nbd_serve.proofs.room.Room.note.Given as goal

abbrev pub invariant-loop-event : goal.invariant-loop-event
invariant-loop-event g l = record {
  sessions : l.self.sessions ≡ l.fn.self.sessions;
  stands : standing l.self.ended l.self.accepted l.self.connected.numbers.items l.self.faulty
      ≡ standing l.fn.self.ended l.fn.self.accepted l.fn.self.connected.numbers.items l.fn.self.faulty;
  clients : l.self.connected.clients.items ≡ l.fn.self.connected.clients.items;
  leaving : l.self.partings.leaving.items ≡ l.fn.self.partings.leaving.items;
}
