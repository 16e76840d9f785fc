use Rattle.std.proofs.Common.{◌≡◌, length}
use Rattle.nbd_serve.proofs.connected.Connected.wake.Given as goal

abbrev pub invariant-each : goal.invariant-each
invariant-each g l = record {
  clients : l.self.clients.items ≡ l.fn.self.clients.items;
  numbers : l.self.numbers.items ≡ l.fn.self.numbers.items;
  end : l.at-end ≡ length l.fn.self.clients.items;
}
