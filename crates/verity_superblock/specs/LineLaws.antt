-- What follows from the definition of a table line.
use Rattle.std.specs.Prelude.{◌≡◌, ℕ, List, ◌↔◌, None}
use Rattle.verity_superblock.specs.Line.{TableLine, IsTableLine, Line, canonical, line_refusal}

-- the canonical spelling is a table line with these values
abbrev pub SpellsBack : Type 0
SpellsBack = (t : TableLine) → IsTableLine t → Line (canonical t) t

-- a text is one table line at most
abbrev pub DeterminesLine : Type 0
DeterminesLine = (text : List ℕ) (t u : TableLine) → Line text t → Line text u → t ≡ u

-- nothing is refused exactly where the text is a table line
abbrev pub RefusesOtherLines : Type 0
RefusesOtherLines = (text : List ℕ) → (line_refusal text ≡ None) ↔ ((t : TableLine) × Line text t)
