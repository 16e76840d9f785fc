-- What a commit makes before it changes anything.
use Rattle.std.specs.Prelude.{◌≡◌, ℕ, ◌+◌, ◌≤◌, List, length, drop}
use Rattle.verity_digest.specs.Hash.{hashing, size_of}
use Rattle.verity_digest.specs.Tree.{Hashing, root, tree}
use Rattle.verity_geometry.specs.Geometry.{Shape, digests_per_block, levels_of, total_of}
use Rattle.verity_profile.specs.Profile.{zero_block}
use Rattle.verity_superblock.specs.Superblock.{Params, Volume, salted}
use Rattle.verity_superblock.specs.Image.{superblock_block}
use Rattle.verity_plan.specs.declared.tree.Change.{Change}
use Rattle.verity_plan.specs.declared.planning.CommitPlan.{CommitPlan}
use Rattle.verity_pending.specs.Draft.{Draft, edits_of}
use Rattle.verity_pending.specs.Touched.{touched_count, old_touched_count}
use Rattle.verity_pending.specs.Leaves.{hashes}
use Rattle.verity_plan.specs.Levels.{moved_blocks}
use Rattle.verity_pending.specs.Plan.{ArePlanned}
use Rattle.verity_plan.specs.Seen.{GivesAt}
use Rattle.verity_plan.specs.Making.{IsTouchedPlace, touched_blocks}
use Rattle.verity_plan.specs.Carried.{AreInTree}
use Rattle.verity_plan.specs.Standing.{BeginsWith}

-- the shape of a volume with so many data blocks
abbrev pub volume_shape : Params → ℕ → Shape
volume_shape p n = record { data_size = p.data_block_size; hash_size = p.hash_block_size; digest_size = size_of p.algorithm; blocks = n }

-- how its blocks are hashed
abbrev pub volume_hashing : Params → Hashing
volume_hashing p = hashing (salted p) p.hash_block_size

-- its tree, which begins at block `first` and has this root, and the tree over so many data blocks
abbrev pub change_of : Volume → ℕ → List ℕ → ℕ → Change
change_of v first old_root count = record {
  first = first;
  old = volume_shape v.params v.data_blocks;
  new = volume_shape v.params count;
  root = old_root;
}

-- a plan that can be carried out over a volume with this draft
pub record IsPlan {A : Type 0} (v : Volume) (d : Draft) (first : ℕ) (old_root : List ℕ) (plan : CommitPlan A) : Type 0 where
  pub change : plan.change ≡ change_of v first old_root d.working
  pub superblock : plan.superblock ≡ record { params = v.params; data_blocks = d.working }
  pub first_block : plan.first_block.items ≡ superblock_block v.params d.working
  pub first_size : length plan.first_block.items ≡ v.params.hash_block_size
  pub zero : plan.zero.items ≡ zero_block d.size
  pub planned : ArePlanned v.params.hash_block_size plan.made.items
  pub places : AreInTree first (total_of (volume_shape v.params d.working)) plan.made.items
  pub root_size : length plan.root ≡ size_of v.params.algorithm
  pub hashed : (image : List (List ℕ)) → length image ≡ d.committed → plan.hashed
      ≡ hashes (digests_per_block (volume_shape v.params d.working)) d (edits_of image d)

-- the plan has the touched blocks and the root of the working image's tree, where the committed image's stands in the store
abbrev pub IsRight : {A : Type 0} → Volume → Draft → ℕ → List ℕ → List (List ℕ) → CommitPlan A → Type 0
IsRight v d first old_root content plan = (image : List (List ℕ)) → length image ≡ d.committed
    → BeginsWith (drop first content) (tree (volume_hashing v.params) image) → old_root ≡ root (volume_hashing v.params) image
    → (plan.made.items ≡ touched_blocks (volume_hashing v.params) (edits_of image d) first d.working
    (levels_of (volume_shape v.params d.working)))
    × (plan.root ≡ root (volume_hashing v.params) (edits_of image d).working)

-- how many hash blocks are touched, whatever the committed image is
abbrev pub ReadsTouched : Volume → Draft → ℕ → ℕ → Type 0
ReadsTouched v d old new = (image : List (List ℕ)) → length image ≡ d.committed → d.working ≡ d.committed
    → new ≤ old + touched_count (digests_per_block (volume_shape v.params d.working)) (edits_of image d)

-- which blocks are given for it, whatever the committed image is
abbrev pub GivesTouched : Volume → Draft → ℕ → List ℕ → List (ℕ × List ℕ) → List (ℕ × List ℕ) → Type 0
GivesTouched v d first old_root old new = (image : List (List ℕ)) → length image ≡ d.committed
    → GivesAt (IsTouchedPlace (change_of v first old_root d.working) (edits_of image d)) old new

-- how many hash blocks are read where each is read once, with so many more, whatever the committed image is
abbrev pub ReadsPaths : Volume → Draft → ℕ → ℕ → ℕ → Type 0
ReadsPaths v d more old new = (image : List (List ℕ)) → length image ≡ d.committed
    → new ≤ old + old_touched_count (digests_per_block (volume_shape v.params d.working)) (edits_of image d) + more

-- how many hash blocks are moved where the volume gets the draft's count
abbrev pub moves_of : Volume → Draft → ℕ
moves_of v d = moved_blocks (volume_shape v.params v.data_blocks) (volume_shape v.params d.working)
