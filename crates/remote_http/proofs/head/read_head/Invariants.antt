use Rattle.std.proofs.Common.{◌≡◌, ◌≤◌, length, take}
use Rattle.std.specs.Io.KnownBytes.{Consumes, Keeps}
use Rattle.remote_http.proofs.head.read_head.Given as goal

abbrev pub invariant-turns : goal.invariant-turns
invariant-turns g l = record {
  same : length l.buf ≡ length l.initial.buf;
  within : l.filled ≤ length l.buf;
  given : Consumes (g.W.Wire.remaining l.initial.wire) (g.W.Wire.remaining l.wire) (take l.filled l.buf);
  unwritten : Keeps (g.W.Wire.contents l.initial.wire) (g.W.Wire.contents l.wire);
}
