-- How a shape describes the hash tree of an image, and how shapes of one volume go together.
use Rattle.std.specs.Prelude.{◌≡◌, ℕ, ◌+◌, ◌/◌, ◌%◌, ◌<◌, ◌≤◌, List, [], length, slice_index_or}
use Rattle.verity_digest.specs.Tree.{Hashing, slot, root, tree}
use Rattle.verity_digest.specs.Hash.{Salted, hashing, size_of}
use Rattle.verity_digest.specs.Rows.{tree_levels, level_block}
use Rattle.verity_geometry.specs.Geometry.{Shape, IsOfShape, digests_per_block, levels_of, len_of, start_of, place_of, total_of, above_of}

-- an image of the shape's count of blocks, hashed by either algorithm with the shape's sizes, is of this shape
abbrev pub ShapesImages : Shape → Type 0
ShapesImages s = (salted : Salted) (image : List (List ℕ)) → size_of salted.algorithm ≡ s.digest_size → length image ≡ s.blocks
    → IsOfShape s (hashing salted s.hash_size) image

-- the numbers of levels and of their blocks are those of the image's tree
pub record CountsLevels (s : Shape) (h : Hashing) (image : List (List ℕ)) : Type 0 where
  pub levels : length (tree_levels h image) ≡ levels_of s
  pub level : (l : ℕ) → l < levels_of s → length (slice_index_or (tree_levels h image) l []) ≡ len_of s l
  pub tree : length (tree h image) ≡ total_of s

-- block i of level l stands in the tree where the shape says
abbrev pub PlacesBlocks : Shape → Hashing → List (List ℕ) → Type 0
PlacesBlocks s h image = (l i : ℕ) → l < levels_of s → i < len_of s l
    → slice_index_or (tree h image) (place_of s l i) [] ≡ level_block h image l i

-- data block n's digest stands in block n / k of level 0, slot n % k; that of block i of a level in block
-- i / k of the next level, slot i % k; and that of the one block of the top level is the root
pub record NamesParents (s : Shape) (h : Hashing) (image : List (List ℕ)) : Type 0 where
  pub leaf : 0 < levels_of s → (n : ℕ) → n < s.blocks
      → slot h (level_block h image 0 (n / digests_per_block s)) (n % digests_per_block s) ≡ h.digest (slice_index_or image n [])
  pub parent : (l i : ℕ) → l + 1 < levels_of s → i < len_of s l
      → slot h (level_block h image (l + 1) (i / digests_per_block s)) (i % digests_per_block s) ≡ h.digest (level_block h image l i)
  pub top : (l : ℕ) → l + 1 ≡ levels_of s → root h image ≡ h.digest (level_block h image l 0)

-- the same sizes, and a count that is no smaller
pub record Grows (small large : Shape) : Type 0 where
  pub hash_size : large.hash_size ≡ small.hash_size
  pub digest_size : large.digest_size ≡ small.digest_size
  pub blocks : small.blocks ≤ large.blocks

-- there are no fewer levels, no level is shorter, and none begins earlier
pub record StartsRise (small large : Shape) : Type 0 where
  pub levels : levels_of small ≤ levels_of large
  pub lengths : (l : ℕ) → len_of small l ≤ len_of large l
  pub starts : (l : ℕ) → start_of small l ≤ start_of large l
  pub total : total_of small ≤ total_of large

-- above each data block there is one block in each level, which holds the digest of the one below
pub record ClimbsFrom (s : Shape) : Type 0 where
  pub within : (l n : ℕ) → n < s.blocks → above_of s l n < len_of s l
  pub leaf : (n : ℕ) → above_of s 0 n ≡ n / digests_per_block s
  pub parent : (l n : ℕ) → above_of s (l + 1) n ≡ above_of s l n / digests_per_block s
