use Rattle.std.specs.Io.KnownBytes.{Keeps}
use Rattle.remote_nbd.proofs.read.skip_reply.Given as goal

abbrev pub invariant-pieces : goal.invariant-pieces
invariant-pieces g l = Keeps (g.W.Wire.contents l.initial.wire) (g.W.Wire.contents l.wire)
