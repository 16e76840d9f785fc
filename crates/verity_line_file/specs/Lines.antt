-- The text of a file that holds a table line.
use Rattle.std.specs.Prelude.{ℕ, ◌-◌, ◌==◌, ◌&&◌, Bool, not, nat_lt, IsTrue, if◌then◌else◌}
use Rattle.std.specs.Prelude.{List, [], ◌∷◌, ◌++◌, codes, length, slice_index, take, IsUtf8}
use Rattle.std.specs.List.{list_all}
use Rattle.verity_superblock.specs.Line.{TableLine, Line, canonical}

-- a line feed stands at its end
abbrev pub ends_line : List ℕ → Bool
ends_line text = nat_lt 0 (length text) && (slice_index text (length text - 1) == 10)

-- the text without it
abbrev pub line_of : List ℕ → List ℕ
line_of text = if ends_line text then take (length text - 1) text else text

-- no line feed stands in it
abbrev pub is_one_line : List ℕ → Bool
is_one_line text = list_all (λ b. not (b == 10)) text

-- the text is one line, with or without a line feed at its end, and the table line of these values
pub record Holds (text : List ℕ) (t : TableLine) : Type 0 where
  pub one : IsTrue (is_one_line (line_of text))
  pub utf8 : IsUtf8 (line_of text)
  pub line : Line (line_of text) t

-- the same, with a line feed at its end: nothing of it is missing
pub record HoldsWhole (text : List ℕ) (t : TableLine) : Type 0 where
  pub whole : IsTrue (ends_line text)
  pub holds : Holds text t

-- the text of FILE.next while a pull is under way: no table line, nor a part of one
abbrev pub pulling : List ℕ
pulling = codes "pull" ++ 10 ∷ []

-- the text that is written for a table line
abbrev pub text_of : TableLine → List ℕ
text_of t = canonical t ++ 10 ∷ []
