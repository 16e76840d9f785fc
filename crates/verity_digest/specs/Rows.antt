-- The blocks of an image and of its hash tree, by their places.
use Rattle.std.specs.Prelude.{ℕ, zero, suc, List, [], map, slice_index_or}
use Rattle.verity_digest.specs.Tree.{Hashing, pack, rounds}

-- row 0 is the image, and row l + 1 is level l: the hash blocks that hold the digests of row l. The
-- rows go on above the top level, where the tree ends
abbrev pub row : Hashing → List (List ℕ) → ℕ → List (List ℕ)
row h image zero = image
row h image (suc l) = pack h (map h.digest (row h image l))

-- the image's own block at a place: block i of row r
abbrev pub block_at : Hashing → List (List ℕ) → ℕ → ℕ → List ℕ
block_at h image r i = slice_index_or (row h image r) i []

-- the levels of an image's tree, from level 0 up
abbrev pub tree_levels : Hashing → List (List ℕ) → List (List (List ℕ))
tree_levels h image = rounds h (map h.digest image)

-- block i of level l of an image's tree
abbrev pub level_block : Hashing → List (List ℕ) → ℕ → ℕ → List ℕ
level_block h image l i = slice_index_or (slice_index_or (tree_levels h image) l []) i []
