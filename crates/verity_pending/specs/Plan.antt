-- The hash blocks that a commit makes.
use Rattle.std.specs.Prelude.{◌≡◌, ℕ, ◌+◌, ◌<◌, List, [], ◌∷◌, ◌++◌, length, map, slice_index_or}
use Rattle.verity_digest.specs.Tree.{Hashing, pack}
use Rattle.verity_pending.specs.declared.child.Child.{Child}

-- a hash block that a commit writes, and where
pub record Planned : Type 0 where
  pub at : ℕ
  pub block : List ℕ

abbrev pub nothing_planned : Planned
nothing_planned = record { at = 0; block = [] }

abbrev pub planned_at : List Planned → ℕ → Planned
planned_at plan c = slice_index_or plan c nothing_planned

-- where the blocks of a plan are written
abbrev pub places : List Planned → List ℕ
places plan = map (λ planned. planned.at) plan

-- the blocks of a plan have `size` bytes
abbrev pub ArePlanned : ℕ → List Planned → Type 0
ArePlanned size plan = (c : ℕ) → c < length plan → length (planned_at plan c).block ≡ size

-- a block of `size` bytes is added at this place
pub record AddsPlanned (size : ℕ) (old new : List Planned) (at : ℕ) : Type 0 where
  pub block : List ℕ
  pub sized : length block ≡ size
  pub added : new ≡ old ++ record { at = at; block = block } ∷ []

-- a child of this number, whose digest has `size` bytes, is added
pub record AddsChild (size : ℕ) (old new : List Child) (number : ℕ) : Type 0 where
  pub digest : List ℕ
  pub sized : length digest ≡ size
  pub added : new ≡ old ++ record { number = number; digest = digest } ∷ []

-- the numbers of the blocks
abbrev pub numbers_of : List Child → List ℕ
numbers_of children = map (λ child. child.number) children

-- the blocks of these numbers of the level that holds the digests `new`, which begins at `start`
abbrev pub made_blocks : Hashing → List (List ℕ) → ℕ → List ℕ → List Planned
made_blocks h new start numbers = map (λ i. record { at = start + i; block = slice_index_or (pack h new) i [] }) numbers

-- and their digests
abbrev pub made_digests : Hashing → List (List ℕ) → List ℕ → List Child
made_digests h new numbers = map (λ i. record { number = i; digest = h.digest (slice_index_or (pack h new) i []) }) numbers
