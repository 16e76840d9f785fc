use Rattle.std.proofs.Common.{◌≡◌, ℕ, ◌<◌, ◌++◌, [], length, slice_index_or}
use Rattle.sha2.specs.Sha256.{digest_bytes, hash_after, initial_hash_256, padded_message}
use Rattle.verity_digest_lanes.specs.Lanes.{lane}
use Rattle.std.specs.Fork.{slice_chunk}
use Rattle.verity_digest_lanes.proofs.messages.digest_eight.Given as goal

abbrev pub invariant-chunks : goal.invariant-chunks
invariant-chunks l = (length l.room ≡ 512) ×
    ((j : ℕ) → j < 8 → lane j l.state ≡ hash_after initial_hash_256 (padded_message (l.salt ++ slice_chunk l.blocks l.size j)) l.k)

abbrev pub invariant-lanes : goal.invariant-lanes
invariant-lanes l = (length l.out ≡ 8) × ((k : ℕ) → k < l.j → slice_index_or l.out k [] ≡ digest_bytes (lane k l.state) 8)
