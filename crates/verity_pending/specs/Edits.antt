-- Edits of an image.
use Rattle.std.specs.Prelude.{ℕ, ◌-◌, ◌^◌, ◌==◌, Bool, false, ◌&&◌, ◌||◌, nat_lt, nat_le, List}
use Rattle.std.specs.Prelude.{◌++◌, length, take, replicate, slice_set, Option, Some, None, if◌then◌else◌}
use Rattle.verity_profile.specs.Profile.{zero_block}
use Rattle.verity_pending.specs.declared.fault.EditFault.{EditFault}
use Rattle.verity_pending.specs.declared.fault.EditFault.TheVariants.{OutOfRange, WrongLength, TooSmall, TooLarge}

-- the image of the last commit, the image as it was edited since, and the numbers of the blocks
-- that were written or added
pub record Edits : Type 0 where
  pub committed : List (List ℕ)
  pub working : List (List ℕ)
  pub changed : ℕ → Bool

-- no edit since this image was committed
abbrev pub unedited : List (List ℕ) → Edits
unedited image = record { committed = image; working = image; changed = λ _. false }

-- the edits with block n written
abbrev pub with_write : ℕ → List ℕ → Edits → Edits
with_write n block e = record {
  committed = e.committed;
  working = slice_set e.working n block;
  changed = λ m. m == n || e.changed m;
}

-- with zero blocks of `size` bytes added, up to this count
abbrev pub with_growth : ℕ → ℕ → Edits → Edits
with_growth size count e = record {
  committed = e.committed;
  working = e.working ++ replicate (count - length e.working) (zero_block size);
  changed = λ m. e.changed m || (nat_le (length e.working) m && nat_lt m count);
}

-- with the blocks from this count on dropped
abbrev pub with_shrink : ℕ → Edits → Edits
with_shrink count e = record {
  committed = e.committed;
  working = take count e.working;
  changed = λ m. e.changed m && nat_lt m count;
}

-- the refusals of edits, where the working image has `count` blocks of `size` bytes
abbrev pub write_rule : ℕ → ℕ → ℕ → List ℕ → Option EditFault
write_rule size count n block = if nat_le count n then Some OutOfRange else (if length block == size then None else Some WrongLength)

abbrev pub grow_rule : ℕ → ℕ → Option EditFault
grow_rule count new = if nat_lt count new && nat_le new (2 ^ 40) then None else Some TooLarge

abbrev pub shrink_rule : ℕ → ℕ → Option EditFault
shrink_rule count new = if nat_lt 0 new && nat_lt new count then None else Some TooSmall
