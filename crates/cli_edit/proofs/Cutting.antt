-- A script's first line, and the answers that its lines get.
use Rattle.std.proofs.Common.{◌≡◌, ◌==◌, ℕ, ◌+◌, ◌-◌, ◌≤◌, cond, Bool, true, false, List, ◌∷◌, length, take, drop}
use Rattle.std.proofs.Common.{Bor, Option, None, Some, IfSome, refl, sym, ap, subst, ◌∙◌, arith}
use Rattle.std.specs.List.{All, position, position_or_len, slice_split, sum_by}
use Rattle.std.proofs.lemmas.Bool.{ltb-false}
use Rattle.std.proofs.lemmas.List.{take_all, length-drop}
use Rattle.std.proofs.lemmas.List.Quantifiers.{position-Some}
use Rattle.std.proofs.lemmas.List.Sums.{position_or_len_is, fails_before_first, sum_by-cons}
use Rattle.std.proofs.lemmas.List.Elements.{All-from_get_or}
use Rattle.std.proofs.lemmas.List.Splits.{slice_split_first, slice_split_none}
use Rattle.cli_edit.specs.Printed.{answers_to, answers_of}

abbrev is_feed : ℕ → Bool
is_feed = λ b. b == 10

-- those of the first line, and of what follows its line feed
at_feed : (bs : List ℕ) (i : ℕ) → position is_feed bs ≡ Some i → answers_of bs ≡ answers_to (take i bs) + answers_of (drop (i + 1) bs)
at_feed bs i e =
    let at = position-Some is_feed bs i 0 e in
    let same : position_or_len is_feed bs ≡ i = position_or_len_is is_feed bs i 0 (omega (arith, at.0)) at.2 (λ _. at.1) in
    let cut : slice_split is_feed bs ≡ take i bs ∷ slice_split is_feed (drop (i + 1) bs) =
    let P : ℕ → Type 0 = λ n. slice_split is_feed bs ≡ take n bs ∷ slice_split is_feed (drop (n + 1) bs) in
    subst P same (slice_split_first is_feed bs 0 (omega (arith, same, at.0))) in
    ap (sum_by answers_to) cut ∙ sum_by-cons answers_to (take i bs) (slice_split is_feed (drop (i + 1) bs))

pub at_line : (bs : List ℕ) (i : ℕ) → position is_feed bs ≡ Some i
    → answers_of bs ≡ answers_to (take i bs) + answers_of (take (length bs - (i + 1)) (drop (i + 1) bs))
at_line bs i e = at_feed bs i e ∙ ap (λ (rest : List ℕ). answers_to (take i bs) + answers_of rest)
    (sym (take_all (length bs - (i + 1)) (drop (i + 1) bs) (omega (arith, length-drop (i + 1) bs))))

none_passes : (b : Bool) (n : ℕ) → cond b (Some n) None ≡ None → b ≡ false
none_passes true n e = cc
none_passes false n e = refl

-- where no line feed stands, there is one line
pub at_end : (bs : List ℕ) → position is_feed bs ≡ None → answers_of bs ≡ answers_to bs
at_end bs e =
    let past : length bs ≤ position_or_len is_feed bs = ltb-false _ _ (none_passes _ _ e) in
    let none : All (λ b. is_feed b ≡ false) bs =
    All-from_get_or (λ b. is_feed b ≡ false) bs 0 (λ k l. fails_before_first is_feed bs k 0 (omega (arith, past, l))) in
    ap (sum_by answers_to) (slice_split_none is_feed bs none) ∙ omega arith

-- those of the lines that are left
abbrev pub answers_left : Option (Bor (List ℕ)) → ℕ
answers_left None = 0
answers_left (Some bytes) = answers_of bytes.now

-- the first of these lines, and those behind it
pub of_first : (rest behind : Option (Bor (List ℕ))) (bytes : Bor (List ℕ)) (text : List ℕ) → rest ≡ Some bytes
    → (behind ≡ None → answers_of bytes.now ≡ answers_to text)
    → IfSome behind (λ b. answers_of bytes.now ≡ answers_to text + answers_of b.now)
    → answers_left rest ≡ answers_to text + answers_left behind
of_first rest None bytes text e whole split = ap answers_left e ∙ whole refl ∙ omega arith
of_first rest (Some b) bytes text e whole split = ap answers_left e ∙ split
