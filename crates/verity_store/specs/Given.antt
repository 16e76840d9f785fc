-- Logs of blocks that were given, each after its number, in the order in which they were given.
use Rattle.std.specs.Prelude.{◌≡◌, ℕ, zero, suc, ◌+◌, ◌≤◌, List, [], ◌∷◌, ◌++◌, length, take, drop, Contains}
use Rattle.std.specs.Fork.{slice_chunk}

-- the new log begins with the old one
abbrev pub GoesOn : List (ℕ × List ℕ) → List (ℕ × List ℕ) → Type 0
GoesOn old new = take (length old) new ≡ old

-- the block was given for this number, behind the first `mark` of the log
abbrev pub GaveSince : List (ℕ × List ℕ) → ℕ → ℕ → List ℕ → Type 0
GaveSince given mark n block = Contains (drop mark given) (n, block)

-- the first `count` blocks of a buffer, each after its number, where the first is block `first`
abbrev pub run_of : ℕ → ℕ → ℕ → List ℕ → List (ℕ × List ℕ)
run_of first size zero out = []
run_of first size (suc count) out = run_of first size count out ++ (first + count, slice_chunk out size count) ∷ []

-- the log goes on by some first blocks of such a run, by `count` of them at most
abbrev pub GivesPart : ℕ → ℕ → ℕ → List ℕ → List (ℕ × List ℕ) → List (ℕ × List ℕ) → Type 0
GivesPart first size count out old new = (m : ℕ) × (m ≤ count) × (new ≡ old ++ run_of first size m out)
