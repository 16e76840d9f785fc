-- What a contract sees of a geometry: the sizes and the count of a volume, and its tree in numbers.
use Rattle.std.specs.Prelude.{◌≡◌, ℕ, ◌/◌, Bool, ◌||◌, ◌==◌, IsTrue, List, length}
use Rattle.verity_digest.specs.Tree.{Hashing, IsHashing}
use Rattle.verity_digest.specs.Shape.{level_count, level_len, level_start, place, total, above}
use Rattle.verity_profile.specs.Profile.{IsBlockSize, IsBlockCount}

-- the sizes of a data block, of a hash block and of a digest, in bytes, and how many data blocks there are
pub record Shape : Type 0 where
  pub data_size : ℕ
  pub hash_size : ℕ
  pub digest_size : ℕ
  pub blocks : ℕ

-- a digest has 32 bytes or 64
abbrev pub is_digest_size : ℕ → Bool
is_digest_size n = n == 32 || n == 64

-- the shapes of the profile
pub record IsShape (s : Shape) : Type 0 where
  pub data_size : IsBlockSize s.data_size
  pub hash_size : IsBlockSize s.hash_size
  pub digest_size : IsTrue (is_digest_size s.digest_size)
  pub blocks : IsBlockCount s.blocks

-- how many digests a hash block has room for
abbrev pub digests_per_block : Shape → ℕ
digests_per_block s = s.hash_size / s.digest_size

-- the number of levels
abbrev pub levels_of : Shape → ℕ
levels_of s = level_count (digests_per_block s) s.blocks

-- how many hash blocks level l has
abbrev pub len_of : Shape → ℕ → ℕ
len_of s l = level_len (digests_per_block s) s.blocks l

-- where level l begins, counted from the block of the root level
abbrev pub start_of : Shape → ℕ → ℕ
start_of s l = level_start (digests_per_block s) s.blocks l

-- where block i of level l stands, counted likewise
abbrev pub place_of : Shape → ℕ → ℕ → ℕ
place_of s l i = place (digests_per_block s) s.blocks l i

-- the hash blocks of all levels
abbrev pub total_of : Shape → ℕ
total_of s = total (digests_per_block s) s.blocks

-- the block of level l above data block n
abbrev pub above_of : Shape → ℕ → ℕ → ℕ
above_of s l n = above (digests_per_block s) l n

-- the image has the shape's count of blocks, and is hashed with the shape's sizes
pub record IsOfShape (s : Shape) (h : Hashing) (image : List (List ℕ)) : Type 0 where
  pub hashing : IsHashing h
  pub block_size : h.block_size ≡ s.hash_size
  pub digest_size : h.digest_size ≡ s.digest_size
  pub blocks : length image ≡ s.blocks
