-- What a report finds at each place, by what the stores hold and which reads failed.
use Rattle.std.specs.Prelude.{ℕ, zero, suc, ◌-◌, ◌/◌, ◌%◌, ◌≡◌, ◌&&◌, ◌||◌, ◌==◌, Bool, true, false, List, [], ◌∷◌, slice_index_or}
use Rattle.std.specs.Str.{bytes_eq}
use Rattle.verity_digest.specs.Tree.{slot}
use Rattle.verity_chain.specs.Table.{Table, hashing_of, branching, height, hash_place}
use Rattle.verity_chain.specs.Chain.{Given}
use Rattle.verity_report.specs.declared.finding.Finding.{Finding}
use Rattle.verity_report.specs.declared.finding.Finding.TheVariants.{Good, Bad, Unread, Unchecked}

-- what the stores hold at a place: row, index
abbrev pub Held : Type 0
Held = ℕ → ℕ → List ℕ

abbrev pub held_by : Table → List (List ℕ) → List (List ℕ) → Held
held_by t data_content hash_content zero i = slice_index_or data_content i []
held_by t data_content hash_content (suc l) i = slice_index_or hash_content (hash_place t l i) []

-- what was given is what is held: both stores tell
abbrev pub Tells : Given → Held → Type 0
Tells given held = (r i : ℕ) (y : List ℕ) → given r i y → y ≡ held r i

-- a place: row, index
abbrev pub Spot : Type 0
Spot = ℕ × ℕ

-- the place is one of the list
abbrev pub is_among : List Spot → ℕ → ℕ → Bool
is_among [] r i = false
is_among (s ∷ spots) r i = ((s.0 == r) && (s.1 == i)) || is_among spots r i

-- whether its read failed, and whether its digest is the one that is named
abbrev pub judge : Bool → Bool → Finding
judge true _ = Unread
judge false true = Good
judge false false = Bad

-- a block was read at the place, and compared
abbrev pub IsChecked : Finding → Type 0
IsChecked Good = Unit {0}
IsChecked Bad = Unit {0}
IsChecked Unread = ⊥
IsChecked Unchecked = ⊥

-- a place is looked at only below a good one
abbrev pub below : Finding → Finding → Finding
below Good finding = finding
below _ finding = Unchecked

module _ (t : Table) (held : Held) (failed : List Spot) where
  -- the digest that the parent's block names for a place with so many rows above it, or the table for the first
  abbrev pub wanted : ℕ → ℕ → ℕ → List ℕ
  wanted zero r i = t.root
  wanted (suc above) r i = slot (hashing_of t) (held (suc r) (i / branching t)) (i % branching t)

  -- by the place alone: its read, and its digest
  abbrev pub alone : ℕ → ℕ → ℕ → Finding
  alone above r i = judge (is_among failed r i) (bytes_eq ((hashing_of t).digest (held r i)) (wanted above r i))

  -- at a place with so many rows above it
  abbrev pub found : ℕ → ℕ → ℕ → Finding
  found zero r i = alone zero r i
  found (suc above) r i = below (found above (suc r) (i / branching t)) (alone (suc above) r i)

  -- the finding at a place: row, index
  abbrev pub finding : ℕ → ℕ → Finding
  finding r i = found (height t - r) r i
