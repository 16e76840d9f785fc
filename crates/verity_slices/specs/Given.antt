-- Blocks that a store gave for numbers in a row.
use Rattle.std.specs.Prelude.{◌≡◌, ℕ, ◌+◌, ◌<◌, List, [], length, map, slice_index_or}
use Rattle.verity_digest.specs.Tree.{Hashing, hash_block, root}
use Rattle.verity_store.specs.Given.{GaveSince}
use Rattle.verity_store.specs.declared.store.BlockStore as store

-- blocks of the store's size, each of which it gave between two moments, for the numbers from `first` on
pub record AreGivenFrom {S : Type 0} (facts : store.Ghosts S) (old new : S) (first : ℕ) (blocks : List (List ℕ)) : Type 0 where
  pub sized : (j : ℕ) → j < length blocks → length (slice_index_or blocks j []) ≡ facts.size old
  pub gave : (j : ℕ) → j < length blocks → GaveSince (facts.given new) (length (facts.given old)) (first + j) (slice_index_or blocks j [])

-- a hash block that holds the digests of so many given blocks from `first` on
pub record IsGivenLeaf {S : Type 0} (facts : store.Ghosts S) (old new : S) (h : Hashing) (first count : ℕ) (block : List ℕ) : Type 0 where
  pub made : List (List ℕ)
  pub len : length made ≡ count
  pub given : AreGivenFrom facts old new first made
  pub is : block ≡ hash_block h (map h.digest made)

-- the root hash is that of so many given blocks from `first` on
pub record IsRootOfGivenLevel {S : Type 0} (facts : store.Ghosts S) (old new : S) (first count : ℕ) (h : Hashing) (digest : List ℕ)
    : Type 0 where
  pub level : List (List ℕ)
  pub len : length level ≡ count
  pub given : AreGivenFrom facts old new first level
  pub is : digest ≡ root h level
