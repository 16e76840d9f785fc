use Rattle.std.specs.Io.KnownBytes.{Keeps}
use Rattle.remote_nbd.specs.Opening.{Informs}
use Rattle.remote_nbd.proofs.go.take_replies.Given as goal

abbrev pub invariant-replies : goal.invariant-replies
invariant-replies g l = record {
  informed : Informs (g.W.Wire.remaining l.initial.wire) (g.W.Wire.remaining l.wire) l.found;
  unwritten : Keeps (g.W.Wire.contents l.initial.wire) (g.W.Wire.contents l.wire);
}
