-- The tree that a commit makes again, level by level. A hash block has room for k digests.
use Rattle.std.specs.Prelude.{◌≡◌, ℕ, zero, suc, ◌+◌, ◌^◌, ◌<◌, ◌≤◌, ◌==◌, nat_lt, true, List}
use Rattle.std.specs.Prelude.{[], ◌++◌, length, map, drop, sum_by, slice_index_or, Some, None, if◌then◌else◌}
use Rattle.std.specs.List.{range_with_len}
use Rattle.verity_digest.specs.Tree.{Hashing, per_block, root, tree}
use Rattle.verity_digest.specs.Shape.{level_count, row_len, level_len, level_start, place}
use Rattle.verity_pending.specs.declared.child.Child.{Child}
use Rattle.verity_geometry.specs.Geometry.{IsShape, digests_per_block, start_of, total_of, levels_of}
use Rattle.verity_plan.specs.declared.level.OldLevel.{OldLevel}
use Rattle.verity_plan.specs.declared.level.Level.{Level}
use Rattle.verity_plan.specs.declared.tree.Change.{Change}
use Rattle.verity_pending.specs.Edits.{Edits}
use Rattle.verity_pending.specs.Touched.{touched, is_touched}
use Rattle.verity_pending.specs.Parents.{edited_blocks}
use Rattle.verity_pending.specs.Kept.{KeepsUnchanged}
use Rattle.verity_pending.specs.Digests.{digests_of}
use Rattle.verity_pending.specs.Slots.{AreNamed}
use Rattle.verity_pending.specs.Plan.{Planned, numbers_of, made_blocks}
use Rattle.verity_plan.specs.Standing.{BeginsWith}

-- what stood at level l of a tree of n data blocks that begins at block `first`: its blocks, or above it the root alone
abbrev pub old_level : ℕ → ℕ → ℕ → List ℕ → ℕ → OldLevel
old_level k first n root l = if nat_lt l (level_count k n)
    then record { start = first + level_start k n l; len = level_len k n l; first = None }
    else (if l == level_count k n then record { start = 0; len = 0; first = Some root } else record { start = 0; len = 0; first = None })

-- level l of the new tree, as it is made from the old one
abbrev pub level_of : Change → ℕ → Level
level_of c l = record {
  old = old_level (digests_per_block c.old) c.first c.old.blocks c.root l;
  start = c.first + start_of c.new l;
  digests = row_len (digests_per_block c.new) c.new.blocks l;
  per_block = digests_per_block c.new;
  digest_size = c.new.digest_size;
}

-- two trees of one volume, whose hash blocks have `size` bytes and its digests `digest`; the old one stands within `blocks` blocks
pub record IsChange (c : Change) (blocks size digest : ℕ) : Type 0 where
  pub near : c.first ≤ 2 ^ 40
  pub within : c.first + total_of c.old ≤ blocks
  pub old_size : c.old.hash_size ≡ size
  pub new_size : c.new.hash_size ≡ size
  pub old_digest : c.old.digest_size ≡ digest
  pub new_digest : c.new.digest_size ≡ digest
  pub sized : length c.root ≡ digest
  pub old_shape : IsShape c.old
  pub new_shape : IsShape c.new

-- the number is that of a block of the old tree that lies above an edited block
pub record IsTouchedPlace (c : Change) (e : Edits) (n : ℕ) : Type 0 where
  pub level : ℕ
  pub index : ℕ
  pub there : level < levels_of c.old
  pub inside : index < level_len (digests_per_block c.old) c.old.blocks level
  pub touched : is_touched (digests_per_block c.old) e level index ≡ true
  pub is : n ≡ c.first + place (digests_per_block c.old) c.old.blocks level index

-- the blocks whose digests level l gets anew: the edited data blocks, or the touched blocks of the level below
abbrev pub renewed : ℕ → Edits → ℕ → List ℕ
renewed k e zero = edited_blocks e
renewed k e (suc l) = touched k e l

-- how many blocks of the first l levels are touched
abbrev pub touched_below : ℕ → Edits → ℕ → ℕ
touched_below k e l = sum_by (λ m. length (touched k e m)) (range_with_len 0 l)

-- where the touched blocks of the first l levels stand, in a tree of n data blocks that begins at block `first`
abbrev pub touched_places : ℕ → Edits → ℕ → ℕ → ℕ → List ℕ
touched_places k e first n zero = []
touched_places k e first n (suc l) = touched_places k e first n l ++ map (λ i. first + level_start k n l + i) (touched k e l)

-- and they
abbrev pub touched_blocks : Hashing → Edits → ℕ → ℕ → ℕ → List Planned
touched_blocks h e first n zero = []
touched_blocks h e first n (suc l) = touched_blocks h e first n l
    ++ made_blocks h (digests_of h e.working l) (first + level_start (per_block h) n l) (touched (per_block h) e l)

-- the edits are of images of m and n data blocks, and these children are the edited blocks
pub record IsEdited (e : Edits) (m n : ℕ) (children : List Child) : Type 0 where
  pub committed : length e.committed ≡ m
  pub working : length e.working ≡ n
  pub some : 0 < m
  pub left : 0 < n
  pub kept : KeepsUnchanged e
  pub numbers : numbers_of children ≡ edited_blocks e

-- the tree of the committed image stands in a store from block `first` on, with this root, and the children have the
-- digests of the working image's blocks
pub record StandsFor (h : Hashing) (e : Edits) (first : ℕ) (content : List (List ℕ)) (old_root : List ℕ)
    (children : List Child) : Type 0 where
  pub tree : BeginsWith (drop first content) (tree h e.committed)
  pub root : old_root ≡ root h e.committed
  pub named : AreNamed (λ n. h.digest (slice_index_or e.working n [])) children
