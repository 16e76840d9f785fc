-- What is staged over a store: the blocks that were written, and lengths.
use Rattle.std.specs.Prelude.{◌≡◌, ℕ, ◌*◌, ◌^◌, ◌<◌, ◌≤◌, nat_lt, List, length, map, Option, None, unwrap_or, IfSome}
use Rattle.std.specs.Prelude.{slice_index_or, [], if◌then◌else◌}
use Rattle.std.specs.List.{concat, range_with_len, AllByRecursion}
use Rattle.std.specs.Ordering.{nat_cmp}
use Rattle.std.specs.Map.{lookup}
use Rattle.std.specs.BTreeMap.{is_at}
use Rattle.verity_profile.specs.Profile.{zero_block}
use Rattle.verity_journal.specs.Plan.{Side, Plan}

-- the bytes of a block; how many blocks there were at least, and how many there are; and the blocks that were written and are
-- still there, each with its number
pub record Stage : Type 0 where
  pub size : ℕ
  pub least : ℕ
  pub blocks : ℕ
  pub written : List (ℕ × List ℕ)

-- what was written to block n
abbrev pub written_at : Stage → ℕ → Option (List ℕ)
written_at stage n = lookup (is_at (nat_cmp n)) stage.written

-- block n: what was written, or else the store's own where it was there all the time, or zeros
abbrev pub block_at : List (List ℕ) → Stage → ℕ → List ℕ
block_at content stage n =
    unwrap_or (written_at stage n) (if nat_lt n stage.least then slice_index_or content n [] else zero_block stage.size)

-- what is staged over a store of this content
abbrev pub staged : List (List ℕ) → Stage → List (List ℕ)
staged content stage = map (block_at content stage) (range_with_len 0 stage.blocks)

-- what every stage meets
pub record IsStage (stage : Stage) : Type 0 where
  pub least : stage.least ≤ stage.blocks
  pub behind : (n : ℕ) → stage.blocks ≤ n → written_at stage n ≡ None
  pub sized : (n : ℕ) → IfSome (written_at stage n) (λ block. length block ≡ stage.size)

-- a block with its number, as bytes at their place
abbrev pub at_place : ℕ → ℕ × List ℕ → ℕ × List ℕ
at_place size entry = (entry.0 * size, entry.1)

-- the places of these blocks have eight bytes
abbrev pub FitPlaces : ℕ → List (ℕ × List ℕ) → Type 0
FitPlaces size entries = AllByRecursion (λ entry. entry.0 * size < 2 ^ 64) entries

-- a stage as the changes of a device
abbrev pub side_of : Stage → Side
side_of stage = record {
  keep = stage.least * stage.size;
  len = stage.blocks * stage.size;
  changes = map (at_place stage.size) stage.written;
}

-- the blocks of the store below, as what a staged store is bound to: no call on it changes them
abbrev pub below_of : List (List ℕ) → List (ℕ × List ℕ)
below_of content = map (λ block. (0, block)) content

-- the bytes of the store below, by what a staged store is bound to
abbrev pub bytes_below : List (ℕ × List ℕ) → List ℕ
bytes_below fixed = concat (map (λ entry. entry.1) fixed)

-- the stages of two devices of a volume of these names as one plan
abbrev pub plan_of : List ℕ → Stage → Stage → Plan
plan_of names on_data on_hash = record { names = names; on_data = side_of on_data; on_hash = side_of on_hash }
