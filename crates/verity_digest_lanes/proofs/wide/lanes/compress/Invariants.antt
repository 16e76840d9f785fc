use Rattle.std.proofs.Common.{◌≡◌, ℕ, ◌+◌, ◌*◌, ◌<◌, length}
use Rattle.sha2.specs.Sha512.{IsRoundsAt, word_at}
use Rattle.verity_digest_lanes.specs.Lanes.{lane, lane_at, window_of, piece_at}
use Rattle.verity_digest_lanes.proofs.wide.lanes.compress.Given as goal

abbrev pub invariant-load : goal.invariant-load
invariant-load l = (length l.w ≡ 16) × ((j : ℕ) → j < 4 → (k : ℕ) → k < l.i →
    lane_at l.w k j ≡ word_at l.bytes (j * l.stride + (l.offset + 8 * k)))

abbrev pub invariant-schedule : goal.invariant-schedule
invariant-schedule l = (j : ℕ) → j < 4 → IsRoundsAt (piece_at 128 l.bytes (j * l.stride + l.offset)) (lane j l.state)
    (window_of j l.w) (lane j l.v) (16 * l.turn)
