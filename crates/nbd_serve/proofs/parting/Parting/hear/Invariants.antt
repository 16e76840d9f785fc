use Rattle.nbd_serve.specs.Sockets.{Drains}
use Rattle.nbd_serve.proofs.parting.Parting.hear.Given as goal

abbrev pub invariant-loop : goal.invariant-loop
invariant-loop g l = Drains (g.C.Connection.log l.fn.self) (g.C.Connection.log l.self-inside.connection)
