-- The numbers of the blocks whose digests a commit makes again, one level up at a time.
use Rattle.std.specs.Prelude.{ℕ, ◌-◌, ◌/◌, ◌==◌, Bool, ◌&&◌, ◌||◌, nat_eq, List, length, filter, map}
use Rattle.std.specs.List.{range_with_len, dedup}
use Rattle.verity_pending.specs.Edits.{Edits}
use Rattle.verity_pending.specs.Touched.{has_fallen}

-- the block is changed or, where the count fell, the last one
abbrev pub is_edited : Edits → ℕ → Bool
is_edited e n = e.changed n || (has_fallen e && n == (length e.working - 1))

-- the blocks whose paths a commit makes again, in order
abbrev pub edited_blocks : Edits → List ℕ
edited_blocks e = filter (is_edited e) (range_with_len 0 (length e.working))

-- the blocks one level above these, where k stand below one
abbrev pub parents : ℕ → List ℕ → List ℕ
parents k numbers = dedup nat_eq (map (λ n. n / k) numbers)
