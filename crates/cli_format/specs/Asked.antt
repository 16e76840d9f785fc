-- Which runs are told.
use Rattle.std.specs.Prelude.{◌≡◌, ℕ, ◌-◌, ◌<◌, ◌≤◌, List, ◌∷◌, ◌++◌, length, slice_index, slice_range, codes, Ok}
use Rattle.std.specs.Fmt.{decimal}
use Rattle.verity_slice.specs.declared.run.Run.{Run}
use Rattle.cli_faults.specs.Faults.{line}
use Rattle.cli_faults.specs.Words.{number_in}
use Rattle.cli_faults.specs.declared.failure.Word.TheVariants as word

-- `slice A B`, in decimal digits
abbrev pub NamesRun : List ℕ → Run → Type 0
NamesRun text run = (first : List ℕ) × (end : List ℕ) × (text ≡ codes "slice " ++ (first ++ (32 ∷ end)))
    × (number_in word.Slice first ≡ Ok run.first) × (number_in word.Slice end ≡ Ok run.end)

-- the line of a run that was made
abbrev pub run_line : Run → List ℕ
run_line run = codes "slice " ++ (decimal run.first ++ (codes " " ++ line (decimal run.end)))

-- the bytes of a text from `from` to before `to` are a line: a line feed stands in front of them, unless they are the first, and behind
-- them, unless they are the last
pub record IsLine (text : List ℕ) (from to : ℕ) : Type 0 where
  pub order : from ≤ to
  pub within : to ≤ length text
  pub begins : 0 < from → slice_index text (from - 1) ≡ 10
  pub ends : to < length text → slice_index text to ≡ 10

-- a line of the text names the run
abbrev pub Tells : List ℕ → Run → Type 0
Tells text run = (from : ℕ) × (to : ℕ) × IsLine text from to × NamesRun (slice_range text from to) run
