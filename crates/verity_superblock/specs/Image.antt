-- The hash device of an image, and where its tree begins.
use Rattle.std.specs.Prelude.{◌≡◌, ℕ, ◌+◌, ◌-◌, ◌/◌, ◌%◌, ◌^◌, ◌≤◌, List, ◌∷◌, ◌++◌, length}
use Rattle.std.specs.List.{concat}
use Rattle.verity_digest.specs.Hash.{hashing}
use Rattle.verity_digest.specs.Tree.{tree}
use Rattle.verity_superblock.specs.Superblock.{Params, salted, superblock, zero_filled}

-- the hash tree of an image under these parameters
abbrev pub tree_of : Params → List (List ℕ) → List (List ℕ)
tree_of p image = tree (hashing (salted p) p.hash_block_size) image

-- the hash block of the superblock: it, and zeros up to the size of a hash block
abbrev pub superblock_block : Params → ℕ → List ℕ
superblock_block p n = zero_filled p.hash_block_size (superblock p n)

-- the hash device of an image: the blocks in front, the superblock's block, and the tree
abbrev pub hash_image : Params → List (List ℕ) → List (List ℕ) → List ℕ
hash_image p image front = concat front ++ (superblock_block p (length image) ++ concat (tree_of p image))

-- the same, in blocks
abbrev pub hash_blocks : Params → List (List ℕ) → List (List ℕ) → List (List ℕ)
hash_blocks p image front = front ++ (superblock_block p (length image) ∷ tree_of p image)

-- the tree can begin behind a superblock at this byte offset
pub record CanBegin (offset hash_size : ℕ) : Type 0 where
  pub whole : offset % hash_size ≡ 0
  pub near : offset / hash_size ≤ 2 ^ 40 - 1

-- the hash block at which the tree begins, behind a superblock at this byte offset
abbrev pub start_behind : ℕ → ℕ → ℕ
start_behind offset hash_size = offset / hash_size + 1
