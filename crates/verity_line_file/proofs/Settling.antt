-- Which of two texts holds a volume's line.
use Rattle.std.proofs.Common.{◌≡◌, sym, ap, subst, ◌∙◌, inl, inr, List, ℕ, Some, None, true, false, Option, ◌++◌, ◌∷◌, [], length}
use Rattle.std.proofs.Common.{◌-◌, ◌<◌, arith}
use Rattle.std.specs.Prelude.{⊤, IsTrue, MatchOption, IsUtf8, take, nat_lt, slice_index, ◌==◌, ◌&&◌, if◌then◌else◌}
use Rattle.std.proofs.Math.Seq.{take-append_seam, get_or-append_seam}
use Rattle.std.proofs.lemmas.Bool.Decides.{nat_tests}
use Rattle.std.proofs.lemmas.List.{length-append}
use Rattle.std.specs.Option.{option_copied}
use Rattle.std.specs.Borrow.{Bor}
use Rattle.os_line_file.specs.Folder.{Texts}
use Rattle.verity_superblock.specs.Line.{TableLine, Line}
use Rattle.verity_superblock.specs.LineLaws.{DeterminesLine}
use Rattle.verity_line_file.specs.Lines.{Holds, HoldsWhole, ends_line, line_of, is_one_line}
use Rattle.verity_line_file.specs.Shown.{Values, Shows}
use Rattle.verity_line_file.specs.Standing.{IsLineOf, IsWholeLineOf, FitsLine, HasNext}
use Rattle.verity_line_file.proofs.Standings.{one_line}

pub same_text : (a b : List ℕ) → Some a ≡ Some b → a ≡ b
same_text a b e = cc

-- FILE as it was read
pub fits_as_read : (v : Values) (read : Option (Bor (List ℕ))) (texts : Texts) → option_copied read ≡ texts.line
    → MatchOption read ⊤ (λ text. IsLineOf v text.now) → FitsLine v texts
fits_as_read v None texts is of = inl (sym is)
fits_as_read v (Some text) texts is of = inr (text.now, sym is, of)

-- FILE.next as it was read
pub next_as_read : (v : Values) (text : List ℕ) (texts : Texts) → Some text ≡ texts.next → IsWholeLineOf v text → HasNext v texts
next_as_read v text texts is of = (text, sym is, of)

pub no_next_as_read : (v : Values) (text : List ℕ) (texts : Texts) → Some text ≡ texts.next → (IsWholeLineOf v text → ⊥)
    → HasNext v texts → ⊥
no_next_as_read v text texts is other has =
    other (subst (λ (l : List ℕ). IsWholeLineOf v l) (same_text has.0 text (sym has.1 ∙ sym is)) has.2)

-- a text that holds a line whole holds no other
pub whole_line : DeterminesLine → (v : Values) (text : List ℕ) (t : TableLine) → HoldsWhole text t → IsWholeLineOf v text → Shows v t
whole_line determines v text t whole of =
    subst (λ (u : TableLine). Shows v u) (one_line determines text of.0 t of.1.holds whole.holds) of.2

-- a line with a line feed behind it
cut : (line : List ℕ) → length (line ++ 10 ∷ []) - 1 ≡ length line
cut line = omega (arith, length-append line (10 ∷ []))

last : (line : List ℕ) → slice_index (line ++ 10 ∷ []) (length (line ++ 10 ∷ []) - 1) ≡ 10
last line = ap (λ i. slice_index (line ++ 10 ∷ []) i) (cut line) ∙ get_or-append_seam line 10 [] 0

some : (n : ℕ) → 0 < n → nat_lt 0 n ≡ true
some n more = grind (arith, nat_tests)

some_bytes : (line : List ℕ) → nat_lt 0 (length (line ++ 10 ∷ [])) ≡ true
some_bytes line = some (length (line ++ 10 ∷ [])) (omega (arith, length-append line (10 ∷ [])))

ends : (line : List ℕ) → ends_line (line ++ 10 ∷ []) ≡ true
ends line = ap (λ b. b && (slice_index (line ++ 10 ∷ []) (length (line ++ 10 ∷ []) - 1) == 10)) (some_bytes line)
    ∙ ap (λ b. b == 10) (last line)

without : (line : List ℕ) → line_of (line ++ 10 ∷ []) ≡ line
without line = ap (λ b. if b then take (length (line ++ 10 ∷ []) - 1) (line ++ 10 ∷ []) else line ++ 10 ∷ []) (ends line)
    ∙ ap (λ n. take n (line ++ 10 ∷ [])) (cut line) ∙ take-append_seam line (10 ∷ [])

pub fed : (line : List ℕ) (t : TableLine) → is_one_line line ≡ true → IsUtf8 line → Line line t → HoldsWhole (line ++ 10 ∷ []) t
fed line t one utf8 is = record {
  whole = ends line;
  holds = record {
    one = subst (λ (l : List ℕ). is_one_line l ≡ true) (sym (without line)) one;
    utf8 = subst IsUtf8 (sym (without line)) utf8;
    line = subst (λ (l : List ℕ). Line l t) (sym (without line)) is;
  };
}

-- where a line feed stands in it, it isn't one line
pub not_fed : (line : List ℕ) → false ≡ is_one_line line → is_one_line (line_of (line ++ 10 ∷ [])) ≡ true → ⊥
not_fed line other one = let is : is_one_line line ≡ true = subst (λ (l : List ℕ). is_one_line l ≡ true) (without line) one in cc
