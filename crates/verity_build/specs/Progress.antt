-- How far the digests of an image's blocks have come up the levels of its tree. A hash block has
-- room for k digests, and there are `all` data blocks, of which n have come.
use Rattle.std.specs.Prelude.{◌≡◌, ◌≢◌, ℕ, zero, suc, ◌+◌, ◌*◌, ◌<◌, ◌≤◌, List, [], ◌∷◌, length, map, take, drop, Option, None, Some}
use Rattle.verity_digest.specs.Tree.{Hashing, per_block}
use Rattle.verity_digest.specs.Rows.{row, block_at}
use Rattle.verity_digest.proofs.Ceil.{IsCeil}
use Rattle.verity_tree.specs.Open.{Open}
use Rattle.verity_tree.specs.Climb.{open_at}

-- how many digests have come to a level: those of the data blocks to level 0, and those of the blocks
-- that were closed to the next level, above the top level too
abbrev pub came : ℕ → List Open → ℕ → ℕ
came n opens zero = n
came n opens (suc l) = (open_at opens l).index

-- what came to a level is in the blocks that were closed and in the open one
abbrev pub InOrder : ℕ → ℕ → List Open → ℕ → Type 0
InOrder k n opens l = came n opens l ≡ (open_at opens l).index * k + length (open_at opens l).digests

-- the root is there as soon as a digest came above the top level
abbrev pub Rooted : ℕ → List Open → Option (List ℕ) → Type 0
Rooted n opens root = root ≡ None → came n opens (length opens) ≡ 0

-- between two data blocks: no open block is full
pub record Growing (k n : ℕ) (opens : List Open) (root : Option (List ℕ)) : Type 0 where
  pub order : (l : ℕ) → l < length opens → InOrder k n opens l
  pub room : (l : ℕ) → l < length opens → length (open_at opens l).digests < k
  pub rooted : Rooted n opens root

-- behind the last data block: every level has closed as many blocks as it takes
pub record Grown (k n : ℕ) (opens : List Open) (root : Option (List ℕ)) : Type 0 where
  pub ceil : (l : ℕ) → l < length opens → IsCeil (came n opens l) k (open_at opens l).index
  pub rooted : Rooted n opens root

-- a data block has come, and the blocks that are done with it were closed in the levels below this one
pub record Settling (k n all level : ℕ) (opens : List Open) (root : Option (List ℕ)) : Type 0 where
  pub below : (l : ℕ) → l < level → l < length opens → IsCeil (came n opens l) k (open_at opens l).index
  pub earlier : n < all → (l : ℕ) → l < level → l < length opens → InOrder k n opens l
  pub order : (l : ℕ) → level ≤ l → l < length opens → InOrder k n opens l
  pub room : (l : ℕ) → l ≢ level → l < length opens → length (open_at opens l).digests < k
  pub some : level < length opens → 1 ≤ length (open_at opens level).digests
  pub most : level < length opens → length (open_at opens level).digests ≤ k
  pub rooted : Rooted n opens root

-- what is in the open blocks are the image's digests: those of the blocks of the row below that come
-- behind the ones in the blocks before; and the root is the digest of the top
pub record IsRight (h : Hashing) (image : List (List ℕ)) (opens : List Open) (root : Option (List ℕ)) : Type 0 where
  pub holds : (l : ℕ) → l < length opens
      → (open_at opens l).digests ≡ take (length (open_at opens l).digests)
      (drop ((open_at opens l).index * per_block h) (map h.digest (row h image l)))
  pub rooted : (digest : List ℕ) → root ≡ Some digest → digest ≡ h.digest (block_at h image (length opens) 0)

-- how many hash blocks were closed so far, of all levels
abbrev pub closed : List Open → ℕ
closed [] = 0
closed (one ∷ others) = one.index + closed others
