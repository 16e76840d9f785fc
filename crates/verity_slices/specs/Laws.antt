-- Slices and a join are a build.
use Rattle.std.specs.Prelude.{◌≡◌, ℕ, List, [], ◌∷◌, length, Contains}
use Rattle.verity_digest.specs.Hash.{hashing}
use Rattle.verity_digest.specs.Tree.{root}
use Rattle.verity_geometry.specs.Geometry.{Shape, IsShape}
use Rattle.verity_slice.specs.declared.run.Run.{Run}
use Rattle.verity_superblock.specs.Image.{hash_blocks, start_behind}
use Rattle.verity_build.specs.Parameters.{Parameters, salted_by, volume, shape_over, front}
use Rattle.verity_slices.specs.Leaves.{HoldsLeaves, GrowsBeside}
use Rattle.verity_slices.specs.Joins.{Joins}

-- what one slice of an image's volume leaves
pub record LeavesSlice (p : Parameters) (s : Shape) (offset : ℕ) (image : List (List ℕ)) (run : Run) (old new : List (List ℕ))
    : Type 0 where
  pub stored : HoldsLeaves (hashing (salted_by p) s.hash_size) s (start_behind offset s.hash_size) image run new
  pub grows : GrowsBeside s (start_behind offset s.hash_size) run old new

-- one slice after the other leaves this content
abbrev pub LeaveSlices : Parameters → Shape → ℕ → List (List ℕ) → List Run → List (List ℕ) → List (List ℕ) → Type 0
LeaveSlices p s offset image [] old new = new ≡ old
LeaveSlices p s offset image (run ∷ runs) old new =
    (now : List (List ℕ)) × LeavesSlice p s offset image run old now × LeaveSlices p s offset image runs now new

-- a join that is told of slices which were made leaves the image's hash device, with what stood in front before the first slice, and
-- answers the image's root
abbrev pub SlicesBuild : Type 0
SlicesBuild = (p : Parameters) (data_size hash_size offset : ℕ) (image : List (List ℕ)) (made told : List Run)
    (old now new : List (List ℕ)) (digest : List ℕ)
    → IsShape (shape_over p data_size hash_size (length image))
    → LeaveSlices p (shape_over p data_size hash_size (length image)) offset image made old now
    → ((run : Run) → Contains told run → Contains made run)
    → Joins p (shape_over p data_size hash_size (length image)) offset image told now new digest
    → (new ≡ hash_blocks (volume p data_size hash_size) image (front offset hash_size old))
    × (digest ≡ root (hashing (salted_by p) hash_size) image)
