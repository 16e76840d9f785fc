-- Digests of an image's blocks, in a row.
use Rattle.std.specs.Prelude.{◌≡◌, ℕ, ◌+◌, ◌<◌, List, [], length, slice_index_or}
use Rattle.verity_digest.specs.Tree.{Hashing}

-- these are the digests of the image's blocks from `first` on
abbrev pub AreDigests : Hashing → List (List ℕ) → ℕ → List (List ℕ) → Type 0
AreDigests h image first digests = (j : ℕ) → j < length digests
    → slice_index_or digests j [] ≡ h.digest (slice_index_or image (first + j) [])
