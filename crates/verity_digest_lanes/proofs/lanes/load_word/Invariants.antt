use Rattle.std.proofs.Common.{◌≡◌, ℕ, ◌+◌, ◌*◌, ◌<◌, length, slice_index}
use Rattle.sha2.specs.Sha256.{word_at}
use Rattle.verity_digest_lanes.proofs.lanes.load_word.Given as goal

abbrev pub invariant-lanes : goal.invariant-lanes
invariant-lanes l = (length l.lanes ≡ 8) × ((k : ℕ) → k < l.j → slice_index l.lanes k ≡ word_at l.bytes (k * l.stride + l.offset))
