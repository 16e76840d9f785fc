-- What a commit carries out in the hash store.
use Rattle.std.specs.Prelude.{◌≡◌, ℕ, ◌+◌, ◌<◌, ◌≤◌, List, length, drop}
use Rattle.verity_digest.specs.Tree.{Hashing, per_block, tree}
use Rattle.verity_geometry.specs.Geometry.{digests_per_block, levels_of}
use Rattle.verity_plan.specs.declared.tree.Change.{Change}
use Rattle.verity_pending.specs.Edits.{Edits}
use Rattle.verity_pending.specs.Kept.{KeepsUnchanged}
use Rattle.verity_pending.specs.Plan.{Planned, planned_at}
use Rattle.verity_plan.specs.Making.{touched_blocks}
use Rattle.verity_plan.specs.Standing.{BeginsWith}

-- the blocks of a plan belong in a tree of `total` blocks that begins at block `first`
abbrev pub AreInTree : ℕ → ℕ → List Planned → Type 0
AreInTree first total plan = (c : ℕ) → c < length plan → (first ≤ (planned_at plan c).at) × ((planned_at plan c).at < first + total)

-- the tree of the committed image stands in a store, and the plan has the touched blocks of the working image's
pub record IsCarried (h : Hashing) (e : Edits) (c : Change) (content : List (List ℕ)) (plan : List Planned) : Type 0 where
  pub two : 2 ≤ per_block h
  pub old_width : per_block h ≡ digests_per_block c.old
  pub new_width : per_block h ≡ digests_per_block c.new
  pub committed : length e.committed ≡ c.old.blocks
  pub working : length e.working ≡ c.new.blocks
  pub left : 0 < c.new.blocks
  pub kept : KeepsUnchanged e
  pub stands : BeginsWith (drop c.first content) (tree h e.committed)
  pub plan_is : plan ≡ touched_blocks h e c.first c.new.blocks (levels_of c.new)
