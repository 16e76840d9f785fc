use Rattle.std.proofs.Common.{ℕ, ◌+◌, ◌<◌, [], slice_index_or}
use Rattle.verity_pull.specs.Walk.{IsName}
use Rattle.verity_pull.proofs.row.name_each.Given as goal

abbrev pub invariant-each : goal.invariant-each
invariant-each g l = (k : ℕ) → k < l.j → IsName l.tree 0 (l.n + k) l.rows (slice_index_or l.names k [])
