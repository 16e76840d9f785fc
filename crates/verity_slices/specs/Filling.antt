-- A block of level 0 while it is filled.
use Rattle.std.specs.Prelude.{◌≡◌, ℕ, ◌+◌, ◌<◌, List, [], length, map, slice_index_or, true}
use Rattle.verity_digest.specs.Tree.{Hashing, hash_block}
use Rattle.verity_store.specs.declared.store.BlockStore as store
use Rattle.verity_slices.specs.Given.{AreGivenFrom}

-- it holds the digests of given data blocks from `first` to before `n`, which are the image's over a store that tells
pub record Filling {S : Type 0} (facts : store.Ghosts S) (old now : S) (h : Hashing) (first n : ℕ) (block : List ℕ) : Type 0 where
  pub made : List (List ℕ)
  pub count : first + length made ≡ n
  pub given : AreGivenFrom facts old now first made
  pub bytes : block ≡ hash_block h (map h.digest made)
  pub right : facts.tells old ≡ true → (j : ℕ) → j < length made
      → h.digest (slice_index_or made j []) ≡ h.digest (slice_index_or (facts.content old) (first + j) [])
