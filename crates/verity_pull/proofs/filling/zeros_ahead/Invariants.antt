use Rattle.std.proofs.Common.{◌≡◌, ℕ, ◌<◌, [], slice_index_or}
use Rattle.verity_pull.proofs.filling.zeros_ahead.Given as goal

abbrev pub invariant-each : goal.invariant-each
invariant-each l = (k : ℕ) → k < l.i → slice_index_or l.names k [] ≡ l.zeros
