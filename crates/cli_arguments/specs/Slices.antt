-- Which slice is asked for.
use Rattle.std.specs.Prelude.{◌≡◌, ℕ, List, ◌∷◌, ◌++◌, Ok}
use Rattle.verity_slice.specs.Slices.{Sliced}
use Rattle.cli_faults.specs.Words.{number_in}
use Rattle.cli_faults.specs.declared.failure.Word.TheVariants as word

-- K/N, in decimal digits
abbrev pub NamesSlice : List ℕ → Sliced → Type 0
NamesSlice text slice = (index : List ℕ) × (count : List ℕ) × (text ≡ index ++ (47 ∷ count))
    × (number_in word.Slice index ≡ Ok slice.index) × (number_in word.Slice count ≡ Ok slice.count)
