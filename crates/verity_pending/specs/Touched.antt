-- The hash blocks above edited data blocks. A hash block has room for k digests.
use Rattle.std.specs.Prelude.{ℕ, ◌+◌, ◌-◌, ◌==◌, Bool, ◌&&◌, ◌||◌, nat_lt, List, length, filter, sum_by}
use Rattle.std.specs.List.{list_any, range_with_len}
use Rattle.verity_digest.specs.Shape.{level_count, level_len, above}
use Rattle.verity_pending.specs.Edits.{Edits}

-- the numbers of the changed blocks, in order
abbrev pub changed_blocks : Edits → List ℕ
changed_blocks e = filter e.changed (range_with_len 0 (length e.working))

-- the count of blocks fell since the last commit
abbrev pub has_fallen : Edits → Bool
has_fallen e = nat_lt (length e.working) (length e.committed)

-- block i of level l lies above a changed block or, where the count fell, above the last block
abbrev pub is_touched : ℕ → Edits → ℕ → ℕ → Bool
is_touched k e l i = list_any (λ n. above k l n == i) (changed_blocks e)
    || (has_fallen e && above k l (length e.working - 1) == i)

-- the touched blocks of level l, in order
abbrev pub touched : ℕ → Edits → ℕ → List ℕ
touched k e l = filter (is_touched k e l) (range_with_len 0 (level_len k (length e.working) l))

-- how many blocks of all levels are touched
abbrev pub touched_count : ℕ → Edits → ℕ
touched_count k e = sum_by (λ l. length (touched k e l)) (range_with_len 0 (level_count k (length e.working)))

-- at most so many blocks are hashed in a commit
abbrev pub bound : ℕ → Edits → ℕ
bound k e = length (changed_blocks e) + touched_count k e

-- the blocks of level l of the committed image's tree that lie above an edited block, in order
abbrev pub old_touched : ℕ → Edits → ℕ → List ℕ
old_touched k e l = filter (is_touched k e l) (range_with_len 0 (level_len k (length e.committed) l))

-- how many of all its levels. Where the count fell, the levels above the new tree's top have one each
abbrev pub old_touched_count : ℕ → Edits → ℕ
old_touched_count k e = sum_by (λ l. length (old_touched k e l)) (range_with_len 0 (level_count k (length e.committed)))
