use Rattle.std.proofs.Common.{◌≡◌, ◌+◌}
use Rattle.verity_store.proofs.file.count_reads.Given as goal

abbrev pub invariant-each : goal.invariant-each
invariant-each l = l.reads.steps ≡ l.initial.reads.steps + l._done
