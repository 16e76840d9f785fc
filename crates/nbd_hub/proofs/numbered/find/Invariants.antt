use Rattle.nbd_hub.specs.Sessions.{Passed}
use Rattle.nbd_hub.proofs.numbered.find.Given as goal

abbrev pub invariant-loop-i : goal.invariant-loop-i
invariant-loop-i g l = Passed l.id l.sessions l.i
