-- Runs of blocks that are moved within a store.
use Rattle.std.specs.Prelude.{◌≡◌, ℕ, ◌+◌, ◌<◌, ◌≤◌, List, [], length, slice_index_or, ◌⊎◌}

-- only blocks of the run of `count` from `start` on may have changed
abbrev pub ChangesWithin : ℕ → ℕ → List (List ℕ) → List (List ℕ) → Type 0
ChangesWithin start count old new =
    (length new ≡ length old) × ((k : ℕ) → (k < start) ⊎ (start + count ≤ k) → slice_index_or new k [] ≡ slice_index_or old k [])

-- the `count` blocks from `to` on are the old ones from `from` on
abbrev pub IsMoved : ℕ → ℕ → ℕ → List (List ℕ) → List (List ℕ) → Type 0
IsMoved from to count old new = (i : ℕ) → i < count → slice_index_or new (to + i) [] ≡ slice_index_or old (from + i) []
