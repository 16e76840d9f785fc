-- What a join leaves of a hash store.
use Rattle.std.specs.Prelude.{◌≡◌, ℕ, ◌<◌, List, ◌∷◌, ◌++◌}
use Rattle.verity_digest.specs.Hash.{hashing}
use Rattle.verity_digest.specs.Tree.{root, tree}
use Rattle.verity_geometry.specs.Geometry.{Shape, levels_of}
use Rattle.verity_slice.specs.Slices.{Covers}
use Rattle.verity_slice.specs.declared.run.Run.{Run}
use Rattle.verity_superblock.specs.Image.{hash_blocks, start_behind, superblock_block}
use Rattle.verity_build.specs.Parameters.{Parameters, salted_by, volume, shape_over, front}
use Rattle.verity_slices.specs.Level.{leaves_of, level_in, upper}

-- the hash device over level 0: the blocks in front, the superblock's block, the tree above level 0, and level 0
abbrev pub device_over : Parameters → Shape → List (List ℕ) → List (List ℕ) → List (List ℕ)
device_over p s level in_front = in_front ++ (superblock_block (volume p s.data_size s.hash_size) s.blocks
    ∷ (tree (hashing (salted_by p) s.hash_size) level ++ level))

-- what a join leaves, and answers, of an image's volume of this shape: over level 0 as it stands, which the runs cover;
-- where there is no level, over the image
pub record Joins (p : Parameters) (s : Shape) (offset : ℕ) (image : List (List ℕ)) (runs : List Run) (old new : List (List ℕ))
    (digest : List ℕ) : Type 0 where
  pub covered : Covers runs (leaves_of s)
  pub levels : 0 < levels_of s → let level = level_in (upper s) (start_behind offset s.hash_size) old in
      (new ≡ device_over p s level (front offset s.hash_size old)) × (digest ≡ root (hashing (salted_by p) s.hash_size) level)
  pub single : levels_of s ≡ 0 → (new ≡ hash_blocks (volume p s.data_size s.hash_size) image (front offset s.hash_size old))
      × (digest ≡ root (hashing (salted_by p) s.hash_size) image)
