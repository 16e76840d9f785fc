-- Laws of hash trees. In all of them k is `per_block h` and n is `length image`.
use Rattle.std.specs.Prelude.{◌≡◌, ℕ, suc, ◌+◌, ◌-◌, ◌*◌, ◌/◌, ◌%◌, ◌<◌, ◌≤◌, List, [], ◌∷◌, length, map, drop, replicate}
use Rattle.std.specs.Prelude.{slice_index_or, All}
use Rattle.verity_digest.specs.declared.algorithm.Algorithm.{Algorithm}
use Rattle.verity_digest.specs.Tree.{Hashing, per_block, pack, rounds, last_digests, digests_at, slot, root, tree, IsHashing, IsLevelCount}
use Rattle.verity_digest.specs.Hash.{Salted, hashing, digest_of, size_of}
use Rattle.verity_digest.specs.Shape.{level_count, row_len, level_len, level_start, place, total, held, above}
use Rattle.verity_digest.specs.Rows.{row, block_at, tree_levels, level_block}

-- none above one digest; else the level that holds the digests, and the levels above the digests of
-- its blocks, up to one digest
pub record UnfoldsRounds (h : Hashing) : Type 0 where
  pub one : (digest : List ℕ) → rounds h (digest ∷ []) ≡ []
  pub more : (digests : List (List ℕ)) → 1 < length digests
      → rounds h digests ≡ pack h digests ∷ rounds h (map h.digest (pack h digests))
  pub single : (digests : List (List ℕ)) → 0 < length digests → length (last_digests h digests (rounds h digests)) ≡ 1

-- one data block has no level, and its digest is the root
pub record HasNoLevel (h : Hashing) (block : List ℕ) : Type 0 where
  pub levels : tree_levels h (block ∷ []) ≡ []
  pub tree : tree h (block ∷ []) ≡ []
  pub root : root h (block ∷ []) ≡ h.digest block

-- the number of levels is the least L with k ^ L ≥ n, level l has ⌈n / k ^ (l + 1)⌉ blocks, and the
-- tree has those of all levels
pub record CountsBlocks (h : Hashing) (image : List (List ℕ)) : Type 0 where
  pub least : IsLevelCount (per_block h) (length image) (length (tree_levels h image))
  pub levels : length (tree_levels h image) ≡ level_count (per_block h) (length image)
  pub level : (l : ℕ) → l < level_count (per_block h) (length image)
      → length (slice_index_or (tree_levels h image) l []) ≡ level_len (per_block h) (length image) l
  pub tree : length (tree h image) ≡ total (per_block h) (length image)

-- block i of level l stands i places behind the start of its level
abbrev pub PlacesBlocks : Hashing → List (List ℕ) → Type 0
PlacesBlocks h image = (l i : ℕ) → l < level_count (per_block h) (length image) → i < level_len (per_block h) (length image) l
    → slice_index_or (tree h image) (place (per_block h) (length image) l i) [] ≡ level_block h image l i

-- the top level, of one block, comes first, and level 0 last, without gaps, and there is nothing else
pub record OrdersLevels (k n : ℕ) : Type 0 where
  pub single : (l : ℕ) → suc l ≡ level_count k n → level_len k n l ≡ 1
  pub first : (l : ℕ) → suc l ≡ level_count k n → level_start k n l ≡ 0
  pub next : (l : ℕ) → suc l < level_count k n → level_start k n (suc l) + level_len k n (suc l) ≡ level_start k n l
  pub last : 0 < level_count k n → level_start k n 0 + level_len k n 0 ≡ total k n
  pub each : (p : ℕ) → p < total k n → (l : ℕ) × (i : ℕ) × (l < level_count k n) × (i < level_len k n l) × (place k n l i ≡ p)

-- data block b's digest stands in level 0, block b / k, slot b % k; that of block i of level l in
-- level l + 1, block i / k, slot i % k; and that of the one block of the top level is the root
pub record NamesDigests (h : Hashing) (image : List (List ℕ)) : Type 0 where
  pub leaf : (b : ℕ) → 0 < level_count (per_block h) (length image) → b < length image
      → slot h (level_block h image 0 (b / per_block h)) (b % per_block h) ≡ h.digest (slice_index_or image b [])
  pub level : (l i : ℕ) → suc l < level_count (per_block h) (length image) → i < level_len (per_block h) (length image) l
      → slot h (level_block h image (suc l) (i / per_block h)) (i % per_block h) ≡ h.digest (level_block h image l i)
  pub top : (l : ℕ) → suc l ≡ level_count (per_block h) (length image) → root h image ≡ h.digest (level_block h image l 0)

-- every hash block has the block size, and zeros behind the digests that it holds
pub record FillsBlocks (h : Hashing) (image : List (List ℕ)) : Type 0 where
  pub levels : All (λ level. All (λ block. length block ≡ h.block_size) level) (tree_levels h image)
  pub tree : All (λ block. length block ≡ h.block_size) (tree h image)
  pub zeros : (l i : ℕ) → l < level_count (per_block h) (length image) → i < level_len (per_block h) (length image) l
      → drop (held (per_block h) (length image) l i * h.digest_size) (level_block h image l i)
      ≡ replicate (h.block_size - held (per_block h) (length image) l i * h.digest_size) 0

-- row l + 1 is level l, which holds the digests of row l; the rows are as long as their numbers say,
-- also above the root; and the digest of the one block at the top is the root
pub record GoesByRows (h : Hashing) (image : List (List ℕ)) : Type 0 where
  pub level : (l : ℕ) → l < level_count (per_block h) (length image) → slice_index_or (tree_levels h image) l [] ≡ row h image (suc l)
  pub holds : (l : ℕ) → digests_at h l (map h.digest image) ≡ map h.digest (row h image l)
  pub rows : (r : ℕ) → length (row h image r) ≡ row_len (per_block h) (length image) r
  pub root : 0 < length image → root h image ≡ h.digest (block_at h image (level_count (per_block h) (length image)) 0)

-- the digest of block i of a row stands in block i / k of the next row, slot i % k, also above the root
abbrev pub NamesByRows : Hashing → List (List ℕ) → Type 0
NamesByRows h image = (r i : ℕ) → i < length (row h image r)
    → slot h (block_at h image (suc r) (i / per_block h)) (i % per_block h) ≡ h.digest (block_at h image r i)

-- both algorithms hash as trees need it
pub record HashesAll : Type 0 where
  pub sizes : (algorithm : Algorithm) (message : List ℕ) → length (digest_of algorithm message) ≡ size_of algorithm
  pub trees : (salted : Salted) (hash_block_size : ℕ) → 512 ≤ hash_block_size → IsHashing (hashing salted hash_block_size)

-- with more data blocks there are no fewer levels, no level is shorter, and none begins earlier
pub record GrowsWithCount (k n m : ℕ) : Type 0 where
  pub levels : level_count k n ≤ level_count k m
  pub lengths : (r : ℕ) → row_len k n r ≤ row_len k m r
  pub starts : (l : ℕ) → level_start k n l ≤ level_start k m l
  pub total : total k n ≤ total k m

-- above data block b there is one block in each level: in level 0 block b / k, and from level to level
-- the one that holds the digest of the one below
pub record LiesAbove (k n b : ℕ) : Type 0 where
  pub within : (l : ℕ) → above k l b < level_len k n l
  pub leaf : above k 0 b ≡ b / k
  pub next : (l : ℕ) → above k (suc l) b ≡ above k l b / k
