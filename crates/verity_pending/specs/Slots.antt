-- Digests in the slots of a hash block, and the blocks below it.
use Rattle.std.specs.Prelude.{◌≡◌, ℕ, ◌/◌, ◌%◌, ◌<◌, ◌≤◌, List, [], length, slice_index_or}
use Rattle.verity_store.specs.Blocks.{cut}
use Rattle.verity_pending.specs.declared.child.Child.{Child}

-- the first k slots of a block, where a digest has `size` bytes
abbrev pub slots : ℕ → ℕ → List ℕ → List (List ℕ)
slots size k block = cut size k block

abbrev pub nobody : Child
nobody = record { number = 0; digest = [] }

abbrev pub child_at : List Child → ℕ → Child
child_at children c = slice_index_or children c nobody

-- the digests of these children have `size` bytes
abbrev pub AreSized : ℕ → List Child → Type 0
AreSized size children = (c : ℕ) → c < length children → length (child_at children c).digest ≡ size

-- the numbers of these children are below this one
abbrev pub AreWithin : ℕ → List Child → Type 0
AreWithin end children = (c : ℕ) → c < length children → (child_at children c).number < end

-- each of these children has the digest that is named for its number
pub record AreNamed (named : ℕ → List ℕ) (children : List Child) : Type 0 where
  pub each : (c : ℕ) → c < length children → (child_at children c).digest ≡ named (child_at children c).number

-- from the children from a to before b, their digests stand in their slots, and the other slots are kept
pub record FillsSlots (k : ℕ) (children : List Child) (a b : ℕ) (old new : List (List ℕ)) : Type 0 where
  pub len : length new ≡ length old
  pub set : (named : ℕ → List ℕ) → AreNamed named children → (c : ℕ) → a ≤ c → c < b → (p : ℕ) → (child_at children c).number / k ≡ p
      → ((d : ℕ) → a ≤ d → d < b → (child_at children d).number / k ≡ p) → slice_index_or new ((child_at children c).number % k) []
      ≡ named (child_at children c).number
  pub kept : (r : ℕ) → ((c : ℕ) → a ≤ c → c < b → (child_at children c).number % k ≡ r → ⊥) → slice_index_or new r []
      ≡ slice_index_or old r []
