-- How the open blocks of a tree change.
use Rattle.std.specs.Prelude.{◌≡◌, ◌≢◌, ℕ, suc, ◌+◌, ◌<◌, ◌≤◌, List, [], ◌∷◌, ◌++◌, length, slice_index_or, Option, Some}
use Rattle.verity_digest.specs.Tree.{Hashing, hash_block}
use Rattle.verity_geometry.specs.Geometry.{Shape}
use Rattle.verity_tree.specs.Open.{Open}

abbrev pub nothing_open : Open
nothing_open = record { block_size = 0; digest_size = 0; digests = []; index = 0 }

-- block 0 of a level, with no digest in it
abbrev pub empty : ℕ → ℕ → Open
empty block_size digest_size = record { block_size = block_size; digest_size = digest_size; digests = []; index = 0 }

-- the open block of a level
abbrev pub open_at : List Open → ℕ → Open
open_at opens level = slice_index_or opens level nothing_open

-- each open block has the sizes of this volume
abbrev pub AreAlike : Shape → List Open → Type 0
AreAlike s opens = (l : ℕ) → l < length opens → ((open_at opens l).block_size ≡ s.hash_size) ×
    ((open_at opens l).digest_size ≡ s.digest_size)

-- no digest has come to any level
abbrev pub AreEmpty : List Open → Type 0
AreEmpty opens = (l : ℕ) → l < length opens → ((open_at opens l).digests ≡ []) × ((open_at opens l).index ≡ 0)

-- a digest comes to a level: its open block gets it, or above the top level it is the root
pub record Comes (level : ℕ) (digest : List ℕ) (old new : List Open) (old_root new_root : Option (List ℕ)) : Type 0 where
  pub len : length new ≡ length old
  pub here : level < length old → open_at new level ≡ record (open_at old level) { digests = (open_at old level).digests ++ digest ∷ [] }
  pub others : (l : ℕ) → l ≢ level → open_at new l ≡ open_at old l
  pub kept : level < length old → new_root ≡ old_root
  pub root : length old ≤ level → new_root ≡ Some digest

-- the open block of a level makes place for the next one, and its digest comes to the next level
pub record Closes (h : Hashing) (level : ℕ) (old new : List Open) (old_root new_root : Option (List ℕ)) : Type 0 where
  pub len : length new ≡ length old
  pub here : open_at new level ≡ record (open_at old level) { digests = []; index = (open_at old level).index + 1 }
  pub above : suc level < length old → open_at new (suc level)
      ≡ record (open_at old (suc level)) {
        digests = (open_at old (suc level)).digests ++ h.digest
            (hash_block h (open_at old level).digests) ∷ [];
      }
  pub others : (l : ℕ) → l ≢ level → l ≢ suc level → open_at new l ≡ open_at old l
  pub kept : suc level < length old → new_root ≡ old_root
  pub root : length old ≤ suc level → new_root ≡ Some (h.digest (hash_block h (open_at old level).digests))
