-- The slice of a volume: a run of its data blocks, and the hash blocks above them. A place is a row and an index: row 0 has the data
-- blocks, and row l + 1 is level l.
use Rattle.std.specs.Prelude.{ℕ, zero, suc, ◌+◌, ◌-◌, ◌*◌, ◌^◌, ◌<◌, ◌≤◌, ◌≡◌, ◌&&◌, Bool, List, length, min, max, nat_le, nat_lt}
use Rattle.std.specs.List.{filter, sum_by}
use Rattle.verity_slice.specs.Slices.{IsIn}
use Rattle.verity_slice.specs.declared.run.Run.{Run}
use Rattle.verity_store.specs.Given.{GaveSince}
use Rattle.verity_store.specs.Stores.{IsOnlyRead}
use Rattle.verity_store.specs.declared.store.BlockStore as store
use Rattle.verity_chain.specs.Table.{Table, branching, height, row_len, hash_place, path_index}
use Rattle.verity_chain.specs.declared.place.Place.{Place}
use Rattle.verity_chain.specs.declared.place.Place.TheVariants as places
use Rattle.verity_report.specs.Finding.{Held, Spot, IsChecked, finding}
use Rattle.verity_report.specs.Report.{listed}
use Rattle.verity_chain.specs.Stores.{IsHashStoreOf}
use Rattle.verity_report.specs.Stores.{given_between, IsDataStoreOf}
use Rattle.verity_report.specs.declared.finding.Verdict.{Verdict}

-- the place is a data block of the run, or the hash block above one
abbrev pub IsOfSlice : Table → Run → ℕ → ℕ → Type 0
IsOfSlice t run r i = (n : ℕ) × IsIn run n × (path_index t n r ≡ i)

-- the same in numbers: from the one above the first data block of the run to the one above the last
pub record IsBetween (t : Table) (run : Run) (r i : ℕ) : Type 0 where
  pub some : run.first < run.end
  pub first : path_index t run.first r ≤ i
  pub last : i ≤ path_index t (run.end - 1) r

-- and as a test
abbrev pub is_of_slice : Table → Run → ℕ → ℕ → Bool
is_of_slice t run r i = nat_lt run.first run.end && (nat_le (path_index t run.first r) i && nat_le i (path_index t (run.end - 1) r))

-- a place is one of the slice
abbrev pub is_of_place : Table → Run → Place → Bool
is_of_place t run (places.Data n) = is_of_slice t run 0 n
is_of_place t run (places.Hash level index) = nat_lt level (height t) && is_of_slice t run (suc level) index

-- a place that a report names, with its verdict, is one
abbrev pub is_of : Table → Run → Place × Verdict → Bool
is_of t run fault = is_of_place t run fault.0

-- the places of the slice in row r that are children of these of the row above
abbrev pub children : Table → Run → ℕ → Run → Run
children t run r parents = record {
  first = max (path_index t run.first r) (parents.first * branching t);
  end = min (path_index t (run.end - 1) r + 1) (parents.end * branching t);
}

-- how many places of the slice lie below these of row r
abbrev pub below : Table → Run → ℕ → Run → ℕ
below t run zero parents = 0
below t run (suc r) parents = ((children t run r parents).end - (children t run r parents).first)
    + below t run r (children t run r parents)

-- how many lie below a place
abbrev pub below_place : Table → Run → Place → ℕ
below_place t run (places.Data n) = 0
below_place t run (places.Hash level index) = below t run (suc level) (record { first = index; end = index + 1 })

-- how many lie below all of these that are named; no count goes beyond the greatest number of 64 bits
abbrev pub unchecked_below : Table → Run → List (Place × Verdict) → ℕ
unchecked_below t run faults = min (2 ^ 64 - 1) (sum_by (λ fault. below_place t run fault.0) faults)

-- the stores are those of the table line
pub record AreStoresOf {D H : Type 0} (data_facts : store.Ghosts D) (hash_facts : store.Ghosts H) (t : Table) (d : D) (h : H)
    : Type 0 where
  pub data_store : IsDataStoreOf data_facts t d
  pub hash_store : IsHashStoreOf hash_facts t h

-- What is wrong in the whole volume by these blocks and by the reads that failed, over any two stores, which were only read, and of which
-- no blocks but those of the slice were asked for. The blocks at the places of the slice are those that the stores gave meanwhile; where a
-- store tells they are its own.
pub record IsSliceRead {D H : Type 0} (data_facts : store.Ghosts D) (hash_facts : store.Ghosts H) (t : Table) (run : Run) (image : D)
    (device : H) (all : List (Place × Verdict)) : Type 0 where
  pub image' : D
  pub device' : H
  pub image_read : IsOnlyRead data_facts image image'
  pub device_read : IsOnlyRead hash_facts device device'
  pub blocks : Held
  pub failed : List Spot
  pub count : length failed + (data_facts.failures image + hash_facts.failures device)
      ≤ data_facts.failures image' + hash_facts.failures device'
  pub all_are : all ≡ listed t blocks failed
  pub gave : (r i : ℕ) → r ≤ height t → i < row_len t r → IsOfSlice t run r i → IsChecked (finding t blocks failed r i)
      → given_between data_facts hash_facts t image device image' device' r i (blocks r i)
  pub data_within : (n : ℕ) (block : List ℕ) → GaveSince (data_facts.given image') (length (data_facts.given image)) n block → IsIn run n
  pub hash_within : (n : ℕ) (block : List ℕ) → GaveSince (hash_facts.given device') (length (hash_facts.given device)) n block
      → (level : ℕ) × (index : ℕ) × (level < height t) × IsOfSlice t run (suc level) index × (hash_place t level index ≡ n)

-- a report of the slice: of all that is wrong it names the places of the slice, in the order of a report of the whole volume
pub record IsSliceReport {D H : Type 0} (data_facts : store.Ghosts D) (hash_facts : store.Ghosts H) (t : Table) (run : Run) (image : D)
    (device : H) (faults : List (Place × Verdict)) (unchecked : ℕ) : Type 0 where
  pub all : List (Place × Verdict)
  pub read : IsSliceRead data_facts hash_facts t run image device all
  pub faults_are : faults ≡ filter (is_of t run) all
  pub unchecked_are : unchecked ≡ unchecked_below t run faults
