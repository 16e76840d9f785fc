-- A report: which places it names, in which order, and how many it counts as unchecked.
use Rattle.std.specs.Prelude.{ℕ, zero, suc, ◌+◌, ◌<◌, ◌≤◌, ◌≡◌, List, [], ◌∷◌, ◌++◌, length, Option, Some, None, Bool}
use Rattle.std.specs.Str.{bytes_eq}
use Rattle.verity_chain.specs.Table.{Table, hashing_of, height, row_len}
use Rattle.verity_chain.specs.Chain.{Given}
use Rattle.verity_report.specs.Finding.{Held, Spot, IsChecked, judge, finding}
use Rattle.verity_chain.specs.declared.place.Place.{Place}
use Rattle.verity_chain.specs.declared.place.Place.TheVariants as places
use Rattle.verity_report.specs.declared.finding.Finding.{Finding}
use Rattle.verity_report.specs.declared.finding.Finding.TheVariants as findings
use Rattle.verity_report.specs.declared.finding.Verdict.{Verdict}
use Rattle.verity_report.specs.declared.finding.Verdict.TheVariants as verdicts

-- the place of a row and an index
abbrev pub place_of : ℕ → ℕ → Place
place_of zero i = places.Data i
place_of (suc l) i = places.Hash l i

-- what a report lists of a place
abbrev pub entry : Finding → Place → List (Place × Verdict)
entry findings.Good place = []
entry findings.Bad place = (place, verdicts.Bad) ∷ []
entry findings.Unread place = (place, verdicts.Unread) ∷ []
entry findings.Unchecked place = []

-- whether it counts the place as unchecked
abbrev pub unchecked_one : Finding → ℕ
unchecked_one findings.Good = 0
unchecked_one findings.Bad = 0
unchecked_one findings.Unread = 0
unchecked_one findings.Unchecked = 1

module _ (t : Table) (held : Held) (failed : List Spot) where
  -- what it lists of the first n places of row r, by rising index
  abbrev pub row_entries : ℕ → ℕ → List (Place × Verdict)
  row_entries r zero = []
  row_entries r (suc n) = row_entries r n ++ entry (finding t held failed r n) (place_of r n)

  -- how many of them it counts as unchecked
  abbrev pub row_unchecked : ℕ → ℕ → ℕ
  row_unchecked r zero = 0
  row_unchecked r (suc n) = row_unchecked r n + unchecked_one (finding t held failed r n)

  -- what it lists of row r and all rows below it: the higher ones first
  abbrev pub entries_from : ℕ → List (Place × Verdict)
  entries_from zero = row_entries zero (row_len t zero)
  entries_from (suc l) = row_entries (suc l) (row_len t (suc l)) ++ entries_from l

  abbrev pub unchecked_from : ℕ → ℕ
  unchecked_from zero = row_unchecked zero (row_len t zero)
  unchecked_from (suc l) = row_unchecked (suc l) (row_len t (suc l)) + unchecked_from l

  -- what it lists of the volume: the top level first, level 0, then the data blocks
  abbrev pub listed : List (Place × Verdict)
  listed = entries_from (height t)

  -- how many places of the volume it counts as unchecked
  abbrev pub unchecked_count : ℕ
  unchecked_count = unchecked_from (height t)

-- what is found at a place where this digest is named, if its parent is good
abbrev pub judged : Table → Option (List ℕ) → Bool → List ℕ → Finding
judged t None failed block = findings.Unchecked
judged t (Some digest) failed block = judge failed (bytes_eq ((hashing_of t).digest block) digest)

-- a report of what is held, where no more reads failed than the stores have failed
pub record IsReportOf (t : Table) (held : Held) (faults : List (Place × Verdict)) (unchecked : ℕ)
    (failures_old failures_new : ℕ) : Type 0 where
  pub failed : List Spot
  pub count : length failed + failures_old ≤ failures_new
  pub faults_are : faults ≡ listed t held failed
  pub unchecked_are : unchecked ≡ unchecked_count t held failed

-- a report of what was given: of blocks, one for each place, of which each that was checked was given at its place
pub record IsReportGiven (t : Table) (given : Given) (faults : List (Place × Verdict)) (unchecked : ℕ)
    (failures_old failures_new : ℕ) : Type 0 where
  pub blocks : Held
  pub report : IsReportOf t blocks faults unchecked failures_old failures_new
  pub gave : (r i : ℕ) → r ≤ height t → i < row_len t r → IsChecked (finding t blocks report.failed r i) → given r i (blocks r i)
