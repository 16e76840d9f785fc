use Rattle.std.proofs.Common.{◌≡◌}
use Rattle.verity_tool.proofs.told.Told.hear.Given as goal

abbrev pub invariant-loop-byte : goal.invariant-loop-byte
invariant-loop-byte g l = l.self.output ≡ l.fn.self.output
