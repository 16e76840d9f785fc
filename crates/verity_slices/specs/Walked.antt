-- What a join goes by: the blocks of level 0 as they stand, and what reads of these and writes above them leave.
use Rattle.std.specs.Prelude.{◌≡◌, ℕ, ◌+◌, ◌<◌, ◌≤◌, ◌⊎◌, List, [], length, slice_index_or, true, Option}
use Rattle.verity_digest.specs.Tree.{Hashing, tree}
use Rattle.verity_geometry.specs.Geometry.{Shape}
use Rattle.verity_tree.specs.Open.{Open}
use Rattle.verity_build.specs.Progress.{IsRight}
use Rattle.verity_build.specs.Device.{AreStored}
use Rattle.verity_slices.specs.Given.{AreGivenFrom}
use Rattle.verity_store.specs.Stores.{IsLater}
use Rattle.verity_store.specs.declared.store.BlockStore as store

-- the content's `count` blocks from `first` on
pub record IsLevel (first count : ℕ) (content level : List (List ℕ)) : Type 0 where
  pub len : length level ≡ count
  pub each : (j : ℕ) → j < count → slice_index_or level j [] ≡ slice_index_or content (first + j) []

-- a run of reads, and of writes to blocks of a part of a store
pub record JoinsPart {S : Type 0} (facts : store.Ghosts S) (first end : ℕ) (old new : S) : Type 0 where
  pub len : length (facts.content new) ≡ length (facts.content old)
  pub others : (q : ℕ) → (q < first) ⊎ (end ≤ q) → slice_index_or (facts.content new) q [] ≡ slice_index_or (facts.content old) q []
  pub room : facts.room new ≡ facts.room old
  pub later : IsLater facts old new

-- the first `n` blocks of level 0, which stands from `level` on, were given, and came to a tree of this shape: whatever the others
-- are, what is open is right, and what is closed is stored, over a store that tells
pub record Walked {S : Type 0} (facts : store.Ghosts S) (old now : S) (s : Shape) (start level n : ℕ) (h : Hashing) (opens : List Open)
    (top : Option (List ℕ)) : Type 0 where
  pub made : List (List ℕ)
  pub len : length made ≡ n
  pub given : AreGivenFrom facts old now level made
  pub real : facts.tells old ≡ true → (j : ℕ) → j < n
      → slice_index_or made j [] ≡ slice_index_or (facts.content old) (level + j) []
  pub right : (image : List (List ℕ)) → length image ≡ s.blocks
      → ((j : ℕ) → j < n → slice_index_or image j [] ≡ slice_index_or made j []) → IsRight h image opens top
  pub stored : facts.tells old ≡ true → (image : List (List ℕ)) → length image ≡ s.blocks
      → ((j : ℕ) → j < n → slice_index_or image j [] ≡ slice_index_or made j [])
      → AreStored s start (tree h image) opens (facts.content now)
