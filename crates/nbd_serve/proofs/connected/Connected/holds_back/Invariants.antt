use Rattle.nbd_serve.proofs.Lulls.{NoneIsHeldBack}
use Rattle.nbd_serve.proofs.connected.Connected.holds_back.Given as goal

abbrev pub invariant-loop-client : goal.invariant-loop-client
invariant-loop-client g l = NoneIsHeldBack l.self.clients.items l.client-index
