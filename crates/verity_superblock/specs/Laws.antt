-- What follows from the definitions.
use Rattle.std.specs.Prelude.{◌≡◌, ℕ, ◌+◌, List, [], ◌++◌, ◌↔◌, length, drop, slice_index_or, None}
use Rattle.std.specs.List.{concat}
use Rattle.verity_profile.specs.Profile.{AllSized}
use Rattle.verity_superblock.specs.Superblock.{Params, IsProfile, superblock}
use Rattle.verity_superblock.specs.Image.{hash_image, hash_blocks, superblock_block, tree_of}
use Rattle.verity_superblock.specs.Reading.{Reads, refusal}

-- a superblock has 512 bytes and reads as what it was made from, whatever follows it
pub record ReadsBack : Type 0 where
  pub size : (p : Params) (n : ℕ) → IsProfile p n → length (superblock p n) ≡ 512
  pub reads : (p : Params) (n : ℕ) (rest : List ℕ) → IsProfile p n → Reads (superblock p n ++ rest) p n

-- bytes read as one volume at most
pub record Determines : Type 0 where
  pub params : (bytes : List ℕ) (p q : Params) (n m : ℕ) → Reads bytes p n → Reads bytes q m → p ≡ q
  pub count : (bytes : List ℕ) (p q : Params) (n m : ℕ) → Reads bytes p n → Reads bytes q m → n ≡ m

-- nothing is refused exactly where the bytes read as a volume of the profile
abbrev pub RefusesTheRest : Type 0
RefusesTheRest = (bytes : List ℕ) → (refusal bytes ≡ None) ↔ ((p : Params) × (n : ℕ) × IsProfile p n × Reads bytes p n)

-- a hash device is whole blocks: those in front, the superblock's, and the tree's
pub record IsInBlocks (p : Params) (image front : List (List ℕ)) : Type 0 where
  pub joins : concat (hash_blocks p image front) ≡ hash_image p image front
  pub sized : AllSized p.hash_block_size (hash_blocks p image front)
  pub only : (content : List (List ℕ)) → AllSized p.hash_block_size content → concat content ≡ hash_image p image front →
      content ≡ hash_blocks p image front
  pub superblock : slice_index_or (hash_blocks p image front) (length front) [] ≡ superblock_block p (length image)
  pub tree : drop (length front + 1) (hash_blocks p image front) ≡ tree_of p image
