-- What a slice leaves of a hash store.
use Rattle.std.specs.Prelude.{◌≡◌, ℕ, ◌+◌, ◌*◌, ◌-◌, ◌<◌, ◌≤◌, ◌⊎◌, max, min, List, [], length, slice_index_or}
use Rattle.verity_digest.specs.Tree.{Hashing, per_block}
use Rattle.verity_digest.specs.Rows.{block_at}
use Rattle.verity_geometry.specs.Geometry.{Shape, start_of, place_of, total_of}
use Rattle.verity_slice.specs.declared.run.Run.{Run}
use Rattle.verity_store.specs.Blocks.{resized}
use Rattle.verity_store.specs.Stores.{IsLater}
use Rattle.verity_store.specs.declared.store.BlockStore as store
use Rattle.verity_slices.specs.Given.{IsGivenLeaf}

-- in a store whose tree begins at `start`, this block is not one of this run of level 0
abbrev pub IsBeside : Shape → ℕ → Run → ℕ → Type 0
IsBeside s start run q = (q < start + start_of s 0 + run.first) ⊎ (start + start_of s 0 + run.end ≤ q)

-- the blocks of this run of level 0 stand where the image's tree has them
abbrev pub HoldsLeaves : Hashing → Shape → ℕ → List (List ℕ) → Run → List (List ℕ) → Type 0
HoldsLeaves h s start image run content = (i : ℕ) → run.first ≤ i → i < run.end
    → slice_index_or content (start + place_of s 0 i) [] ≡ block_at h image 1 i

-- each block of this run holds the digests of data blocks that a store gave between two moments
abbrev pub HoldsGivenLeaves : {S : Type 0} → store.Ghosts S → S → S → Hashing → Shape → ℕ → Run → List (List ℕ) → Type 0
HoldsGivenLeaves facts old new h s start run content = (i : ℕ) → run.first ≤ i → i < run.end
    → IsGivenLeaf facts old new h (i * per_block h) (min (per_block h) (s.blocks - i * per_block h))
    (slice_index_or content (start + place_of s 0 i) [])

-- no block changed that was there and isn't one of the run, and none was cut off
pub record KeepsOthers (s : Shape) (start : ℕ) (run : Run) (old new : List (List ℕ)) : Type 0 where
  pub len : length old ≤ length new
  pub others : (q : ℕ) → q < length old → IsBeside s start run q → slice_index_or new q [] ≡ slice_index_or old q []

-- the content reaches to the end of the tree, and beside the run it is what it was, with zero blocks where it was shorter
pub record GrowsBeside (s : Shape) (start : ℕ) (run : Run) (old new : List (List ℕ)) : Type 0 where
  pub len : length new ≡ max (length old) (start + total_of s)
  pub others : (q : ℕ) → IsBeside s start run q
      → slice_index_or new q [] ≡ slice_index_or (resized s.hash_size (max (length old) (start + total_of s)) old) q []

-- a run of writes to blocks of a part of a store
pub record WritesPart {S : Type 0} (facts : store.Ghosts S) (first end : ℕ) (old new : S) : Type 0 where
  pub len : length (facts.content new) ≡ length (facts.content old)
  pub others : (q : ℕ) → (q < first) ⊎ (end ≤ q) → slice_index_or (facts.content new) q [] ≡ slice_index_or (facts.content old) q []
  pub reads : facts.reads new ≡ facts.reads old
  pub room : facts.room new ≡ facts.room old
  pub given : facts.given new ≡ facts.given old
  pub later : IsLater facts old new
