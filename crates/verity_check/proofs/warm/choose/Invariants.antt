use Rattle.std.proofs.Common.{ℕ, ◌<◌, ◌≤◌, length, slice_index_or}
use Rattle.verity_check.proofs.warm.choose.Given as goal

abbrev pub invariant-each : goal.invariant-each
invariant-each g l = record {
  most : l.count ≤ l.most;
  each : l.count ≤ l.i;
  fits : l.count ≤ length l.numbers;
  below : (k : ℕ) → k < l.count → slice_index_or l.numbers k 0 < l.blocks;
}
