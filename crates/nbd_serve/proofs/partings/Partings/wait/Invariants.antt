use Rattle.std.proofs.Common.{◌≡◌, length}
use Rattle.nbd_serve.proofs.partings.Partings.wait.Given as goal

abbrev pub invariant-each : goal.invariant-each
invariant-each g l = record {
  same : l.self.leaving.items ≡ l.fn.self.leaving.items;
  end : l.at-end ≡ length l.fn.self.leaving.items;
}
