-- The fields of the hash blocks that wait.
use Rattle.std.specs.Prelude.{◌≡◌, ◌*◌, ◌≤◌, length}
use Rattle.verity_tree.specs.Filled.{slots}
use Rattle.verity_tree.specs.Waits.{Waits}
use Rattle.verity_tree.specs.declared.waiting.Waiting.TheInside.{Inside}

-- the blocks of these fields
abbrev pub waits_of : {Z : Type 0} → Inside Z → Waits
waits_of w = record { size = w.size; room = w.room; blocks = slots w.size w.count w.bytes.items }

-- no more than there is room for, which is for eight at most
pub record IsKept {Z : Type 0} (w : Inside Z) : Type 0 where
  pub most : w.count ≤ w.room
  pub few : w.room ≤ 8
  pub whole : length w.bytes.items ≡ w.room * w.size
