-- What writing a plan does to a store.
use Rattle.std.specs.Prelude.{◌≡◌, ℕ, ◌<◌, List, [], length, slice_index_or}
use Rattle.verity_pending.specs.Plan.{Planned, planned_at}

-- the blocks of the first n entries of the plan stand at their places, where one place has one block
abbrev pub AreWritten : ℕ → List Planned → List (List ℕ) → Type 0
AreWritten n plan content = (want : ℕ → List ℕ) → ((c : ℕ) → c < length plan → (planned_at plan c).block ≡ want (planned_at plan c).at)
    → (c : ℕ) → c < n → slice_index_or content (planned_at plan c).at [] ≡ want (planned_at plan c).at

-- and no other place has changed
abbrev pub OnlyPlanned : ℕ → List Planned → List (List ℕ) → List (List ℕ) → Type 0
OnlyPlanned n plan old new = (q : ℕ) → ((c : ℕ) → c < n → (planned_at plan c).at ≡ q → ⊥) → slice_index_or new q []
    ≡ slice_index_or old q []
