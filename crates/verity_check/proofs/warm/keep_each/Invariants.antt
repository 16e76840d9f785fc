use Rattle.std.proofs.Common.{◌≡◌, ℕ, ◌<◌, ◌⊎◌, List, [], length, slice_index_or}
use Rattle.std.specs.Fork.{slice_chunk}
use Rattle.verity_check.specs.Cache.{IsKept}
use Rattle.verity_check.proofs.warm.keep_each.Given as goal

abbrev pub invariant-each : goal.invariant-each
invariant-each g l =
    (m : ℕ) (b : List ℕ) → IsKept l.data_cache m b → IsKept l.fn.data_cache m b
    ⊎ ((j : ℕ) × (j < length l.digests) × (slice_index_or l.digests j [] ≡ slice_index_or l.names j [])
    × (m ≡ slice_index_or l.numbers j 0) × (b ≡ slice_chunk l.blocks l.size j))
