use Rattle.std.proofs.Common.{◌≡◌, ℕ, ◌*◌, ◌<◌, ◌++◌, length}
use Rattle.verity_digest_lanes.specs.Lanes.{piece_at}
use Rattle.std.specs.Fork.{slice_chunk}
use Rattle.verity_digest_lanes.proofs.pieces.fill_lanes.Given as goal

abbrev pub invariant-lanes : goal.invariant-lanes
invariant-lanes l = (length l.room ≡ 512) ×
    ((k : ℕ) → k < l.j → piece_at l.piece l.room (k * l.piece) ≡ piece_at l.piece
    (l.salt ++ (slice_chunk l.blocks l.size k ++ l.pad)) l.from)
