-- How far a report has come. It goes through the rows side by side, through each by rising index.
use Rattle.std.specs.Prelude.{ℕ, zero, suc, ◌+◌, ◌/◌, ◌%◌, ◌<◌, ◌≤◌, ◌≡◌, ◌≢◌, Bool, true, false, List, [], ◌∷◌, ◌++◌, length, replicate}
use Rattle.std.specs.Prelude.{slice_index_or, Option, Some, None}
use Rattle.verity_digest.specs.Tree.{slot}
use Rattle.verity_digest.specs.Shape as shape
use Rattle.verity_chain.specs.Table.{Table, hashing_of, branching, height, path_index}
use Rattle.verity_chain.specs.Chain.{Given}
use Rattle.std.specs.Str.{bytes_eq}
use Rattle.verity_report.specs.Finding.{Held, Spot, IsChecked, judge, finding}
use Rattle.verity_report.specs.Report.{entry, row_entries, row_unchecked}
use Rattle.verity_chain.specs.declared.place.Place.{Place}
use Rattle.verity_report.specs.declared.finding.Verdict.{Verdict}
use Rattle.verity_report.specs.declared.finding.Finding.{Finding}
use Rattle.verity_report.specs.declared.finding.Finding.TheVariants.{Good, Bad, Unread, Unchecked}

-- what is known of a row: how many of its places were looked at; whether the last of them is good, and then its block, where it
-- is a row of hash blocks; and what was listed of them
pub record Known : Type 0 where
  pub seen : ℕ
  pub good : Bool
  pub block : List ℕ
  pub faults : List (Place × Verdict)

-- a row of which nothing was looked at
abbrev pub blank : ℕ → Known
blank size = record { seen = 0; good = false; block = replicate size 0; faults = [] }

abbrev pub nothing_known : Known
nothing_known = record { seen = 0; good = false; block = []; faults = [] }

abbrev pub known : List Known → ℕ → Known
known rows r = slice_index_or rows r nothing_known

abbrev pub seen_in : List Known → ℕ → ℕ
seen_in rows r = (known rows r).seen

-- the sum over the rows from row r down
abbrev pub tally : (ℕ → ℕ) → ℕ → ℕ
tally f zero = f zero
tally f (suc r) = f (suc r) + tally f r

-- how many places were looked at
abbrev pub places : Table → List Known → ℕ
places t rows = tally (seen_in rows) (height t)

-- what was listed, the higher rows first
abbrev pub faults_below : List Known → ℕ → List (Place × Verdict)
faults_below rows zero = []
faults_below rows (suc r) = (known rows r).faults ++ faults_below rows r

-- a row for the data blocks and one for each level, which has room for a hash block
pub record AreRows (t : Table) (rows : List Known) : Type 0 where
  pub len : length rows ≡ suc (height t)
  pub whole : (l : ℕ) → l < height t → length (known rows (suc l)).block ≡ t.hash_block_size

-- the data blocks before n were looked at, and all hash blocks above these
abbrev pub AreSeenTo : Table → ℕ → List Known → Type 0
AreSeenTo t n rows = (r : ℕ) → r ≤ height t → seen_in rows r ≡ shape.row_len (branching t) n r

-- .. and from this level up the hash blocks above data block n, which are the last
pub record IsDownTo (t : Table) (n level : ℕ) (rows : List Known) : Type 0 where
  pub on : (l : ℕ) → level ≤ l → l < height t → seen_in rows (suc l) ≡ suc (path_index t n (suc l))
  pub before : (r : ℕ) → r ≤ level → seen_in rows r ≡ shape.row_len (branching t) n r

-- the digest that a block names for the place at an index below it, if it is good
abbrev pub named_by : Table → ℕ → Bool → List ℕ → Option (List ℕ)
named_by t i true block = Some (slot (hashing_of t) block (i % branching t))
named_by t i false block = None

-- the digest that is named for a place: the root in the top row, else by the last block of the row above, if that is good
pub record IsNamed (t : Table) (r i : ℕ) (rows : List Known) (name : Option (List ℕ)) : Type 0 where
  pub top : r ≡ height t → name ≡ Some t.root
  pub under : r < height t → name ≡ named_by t i (known rows (suc r)).good (known rows (suc r)).block

abbrev pub is_good : Finding → Bool
is_good Good = true
is_good Bad = false
is_good Unread = false
is_good Unchecked = false

-- one more place of a row was looked at
pub record IsNoted (f : Finding) (place : Place) (block : List ℕ) (old new : Known) : Type 0 where
  pub seen : new.seen ≡ suc old.seen
  pub good : new.good ≡ is_good f
  pub kept : new.block ≡ block
  pub faults : new.faults ≡ old.faults ++ entry f place

-- .. and of no other row
pub record IsStep (r : ℕ) (f : Finding) (place : Place) (block : List ℕ) (old new : List Known) : Type 0 where
  pub len : length new ≡ length old
  pub noted : IsNoted f place block (known old r) (known new r)
  pub others : (q : ℕ) → q ≢ r → known new q ≡ known old q

-- so many data blocks more were looked at
pub record IsRun (count : ℕ) (old new : List Known) : Type 0 where
  pub len : length new ≡ length old
  pub first : seen_in new 0 ≡ seen_in old 0 + count
  pub others : (q : ℕ) → q ≢ 0 → known new q ≡ known old q

-- data block n is the next one, and it and those behind it, so many, have the last block of the row above as their parent
pub record IsUnder (t : Table) (n count : ℕ) (rows : List Known) : Type 0 where
  pub next : seen_in rows 0 ≡ n
  pub parent : 0 < height t → (j : ℕ) → j < count → seen_in rows 1 ≡ suc ((n + j) / branching t)

-- what is found at a place, by the digest that is named there and the one that its block has
abbrev pub compared : Option (List ℕ) → List ℕ → Finding
compared None made = Unchecked
compared (Some digest) made = judge false (bytes_eq made digest)

-- all places of the list were looked at
abbrev pub AreSeen : List Known → List Spot → Type 0
AreSeen rows [] = Unit {0}
AreSeen rows (s ∷ spots) = (s.1 < seen_in rows s.0) × AreSeen rows spots

-- none of them was
abbrev pub AreUnseen : List Known → List Spot → Type 0
AreUnseen rows [] = Unit {0}
AreUnseen rows (s ∷ spots) = (seen_in rows s.0 ≤ s.1) × AreUnseen rows spots

-- whether the last place of a row is good is known, and then its block
pub record IsLast (t : Table) (held : Held) (failed : List Spot) (r i : ℕ) (k : Known) : Type 0 where
  pub good : k.good ≡ true → (finding t held failed r i ≡ Good) × (k.block ≡ held r i)
  pub bad : k.good ≡ false → finding t held failed r i ≡ Good → ⊥

-- what is known is right of these blocks, where these reads fail, and those that were checked were given
pub record Stands (t : Table) (given : Given) (held : Held) (failed : List Spot) (rows : List Known) (missed : ℕ) : Type 0 where
  pub faults : (r : ℕ) → r ≤ height t → (known rows r).faults ≡ row_entries t held failed r (seen_in rows r)
  pub unchecked : missed ≡ tally (λ r. row_unchecked t held failed r (seen_in rows r)) (height t)
  pub last : (l i : ℕ) → l < height t → seen_in rows (suc l) ≡ suc i → IsLast t held failed (suc l) i (known rows (suc l))
  pub gave : (r i : ℕ) → r ≤ height t → i < seen_in rows r → IsChecked (finding t held failed r i) → given r i (held r i)

-- of these blocks those that were given at places that were looked at are held there
abbrev pub AreHeld : Given → List Known → Held → Held → Type 0
AreHeld given rows blocks held = (r i : ℕ) → i < seen_in rows r → given r i (blocks r i) → held r i ≡ blocks r i

-- reads of places that were looked at failed, no more than the stores have failed; whatever fails later, and whatever is held where none of
-- these blocks was given, what is known is right
pub record IsSoFar (t : Table) (given : Given) (rows : List Known) (unchecked failures_old failures_new : ℕ) : Type 0 where
  pub failed : List Spot
  pub blocks : Held
  pub count : length failed + failures_old ≤ failures_new
  pub seen : AreSeen rows failed
  pub all : (rest : List Spot) (held : Held) → AreUnseen rows rest → AreHeld given rows blocks held
      → Stands t given held (rest ++ failed) rows unchecked
