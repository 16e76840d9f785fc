use Rattle.std.proofs.Common.{◌≡◌}
use Rattle.nbd_serve.specs.Sockets.{log_of}
use Rattle.nbd_serve.proofs.socket.Socket.empty.Given as goal

abbrev pub invariant-loop : goal.invariant-loop
invariant-loop g l = record {
  asks : l.self.asked ≡ l.fn.self.asked;
  log : log_of g.C.Connection.log l.self ≡ log_of g.C.Connection.log l.fn.self;
}
