use Rattle.std.proofs.Common.{◌≡◌, ℕ, ◌<◌, [], slice_index_or}
use Rattle.verity_report.proofs.ahead.agreeing.Given as goal

abbrev pub invariant-each : goal.invariant-each
invariant-each l = (k : ℕ) → k < l.i → slice_index_or l.digests k [] ≡ slice_index_or l.names k []
