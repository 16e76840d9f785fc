use Rattle.std.proofs.Common.{◌≡◌, ℕ, ◌+◌, ◌*◌, ◌<◌, [], length, slice_index_or}
use Rattle.std.specs.Fork.{slice_chunk}
use Rattle.verity_digest.specs.Hash.{salted_digest}
use Rattle.verity_digest.proofs.hasher.Hasher.digest_fours.Given as goal

abbrev pub invariant-groups : goal.invariant-groups
invariant-groups g l =
    (length l.out ≡ length l.fn.out) × (l.self-inside.count.steps ≡ l.fn.self.hashed + 4 * l.g)
    × (record { algorithm = l.self-inside.algorithm; salt = l.self-inside.salt } ≡ l.fn.self.salted)
    × ((k : ℕ) → k < 4 * l.g → slice_index_or l.out k [] ≡ salted_digest l.fn.self.salted (slice_chunk l.blocks l.size k))
    × (4 * l.groups < length l.fn.out + 1)

abbrev pub invariant-lanes : goal.invariant-lanes
invariant-lanes g l =
    (length l.out ≡ length l.fn.out) × (l.self-inside.count.steps ≡ l.fn.self.hashed + 4 * l.g + l.j)
    × (record { algorithm = l.self-inside.algorithm; salt = l.self-inside.salt } ≡ l.fn.self.salted)
    × ((k : ℕ) → k < 4 * l.g + l.j → slice_index_or l.out k [] ≡ salted_digest l.fn.self.salted (slice_chunk l.blocks l.size k))
