-- The edits since the last commit, as they are kept.
use Rattle.std.specs.Prelude.{◌≡◌, ℕ, ◌-◌, ◌≤◌, ◌^◌, Bool, ◌&&◌, ◌||◌, nat_lt, nat_le, List}
use Rattle.std.specs.Prelude.{length, [], map, Option, None, is_some, unwrap_or, IfSome, slice_index_or, if◌then◌else◌}
use Rattle.std.specs.List.{range_with_len}
use Rattle.std.specs.Ordering.{nat_cmp}
use Rattle.std.specs.Map.{lookup}
use Rattle.std.specs.BTreeMap.{is_at}
use Rattle.verity_profile.specs.Profile.{zero_block}
use Rattle.verity_pending.specs.Edits.{Edits}

-- the bytes of a block; how many blocks the committed image has, how many there were at least since then, and how many
-- there are; and the blocks that were written and are still there, each with its number
pub record Draft : Type 0 where
  pub size : ℕ
  pub committed : ℕ
  pub least : ℕ
  pub working : ℕ
  pub written : List (ℕ × List ℕ)

-- what was written to block n
abbrev pub written_at : Draft → ℕ → Option (List ℕ)
written_at d n = lookup (is_at (nat_cmp n)) d.written

-- block n: what was written, or else the committed block where it was there all the time, or zeros
abbrev pub block_at : List (List ℕ) → Draft → ℕ → List ℕ
block_at image d n = unwrap_or (written_at d n) (if nat_lt n d.least then slice_index_or image n [] else zero_block d.size)

abbrev pub is_changed : Draft → ℕ → Bool
is_changed d n = is_some (written_at d n) || (nat_le d.least n && nat_lt n d.working)

-- the edits of this committed image
abbrev pub edits_of : List (List ℕ) → Draft → Edits
edits_of image d = record {
  committed = image;
  working = map (block_at image d) (range_with_len 0 d.working);
  changed = is_changed d;
}

-- the count didn't fall, or the last block is changed
abbrev pub keeps_last : Draft → Bool
keeps_last d = nat_le d.committed d.working || is_changed d (d.working - 1)

-- what every draft meets
pub record IsDraft (d : Draft) : Type 0 where
  pub some : 1 ≤ d.working
  pub committed_some : 1 ≤ d.committed
  pub least : d.least ≤ d.working
  pub kept : d.least ≤ d.committed
  pub few : d.working ≤ 2 ^ 40
  pub committed_few : d.committed ≤ 2 ^ 40
  pub behind : (n : ℕ) → d.working ≤ n → written_at d n ≡ None
  pub sized : (n : ℕ) → IfSome (written_at d n) (λ block. length block ≡ d.size)
