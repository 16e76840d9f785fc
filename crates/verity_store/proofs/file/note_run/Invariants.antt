use Rattle.std.proofs.Common.{◌≡◌, ◌++◌}
use Rattle.verity_store.specs.Given.{run_of}
use Rattle.verity_store.proofs.file.note_run.Given as goal

abbrev pub invariant-each : goal.invariant-each
invariant-each l = l.given.blocks ≡ l.initial.given.blocks ++ run_of l.first l.size l.j l.out
