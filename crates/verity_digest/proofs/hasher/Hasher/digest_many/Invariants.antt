use Rattle.std.proofs.Common.{◌≡◌, ℕ, ◌+◌, ◌<◌, [], length, slice_index_or}
use Rattle.std.specs.Fork.{slice_chunk}
use Rattle.verity_digest.specs.Hash.{salted_digest}
use Rattle.verity_digest.proofs.hasher.Hasher.digest_many.Given as goal

abbrev pub invariant-rest : goal.invariant-rest
invariant-rest g l =
    (length l.out ≡ length l.fn.out) × (l.self.hashed ≡ l.fn.self.hashed + l.j) × (l.self.salted ≡ l.fn.self.salted)
    × ((k : ℕ) → k < l.j → slice_index_or l.out k [] ≡ salted_digest l.fn.self.salted (slice_chunk l.blocks l.size k))
