-- Things in a row that are cut into runs, as equal as can be.
use Rattle.std.specs.Prelude.{◌≡◌, ℕ, ◌+◌, ◌-◌, ◌*◌, ◌/◌, ◌<◌, ◌≤◌, List, Contains}
use Rattle.verity_slice.specs.declared.run.Run.{Run}

-- the slice `index` of `count`
pub record Sliced : Type 0 where
  pub index : ℕ
  pub count : ℕ

-- there is such a slice
pub record IsSlice (index count : ℕ) : Type 0 where
  pub some : 1 ≤ index
  pub there : index ≤ count
  pub few : count ≤ 65536

-- where the first `index` of `count` runs of `len` things end
abbrev pub cut : ℕ → ℕ → ℕ → ℕ
cut len count index = len * index / count

-- the run of a slice
abbrev pub run_of : Sliced → ℕ → Run
run_of slice len = record { first = cut len slice.count (slice.index - 1); end = cut len slice.count slice.index }

-- the run has the thing of this number
abbrev pub IsIn : Run → ℕ → Type 0
IsIn run q = (run.first ≤ q) × (q < run.end)

-- each of the first `count` things is in a run
abbrev pub Covers : List Run → ℕ → Type 0
Covers runs count = (q : ℕ) → q < count → (run : Run) × Contains runs run × IsIn run q

-- the runs follow one another, from the first thing to the last, and are as long as one another, or one is longer by one
pub record CutsEvenly (len count : ℕ) : Type 0 where
  pub first : cut len count 0 ≡ 0
  pub last : cut len count count ≡ len
  pub least : (i : ℕ) → cut len count i + len / count ≤ cut len count (i + 1)
  pub most : (i : ℕ) → cut len count (i + 1) ≤ cut len count i + len / count + 1
