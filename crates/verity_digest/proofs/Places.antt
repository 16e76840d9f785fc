-- Where the blocks of a level stand in a tree.
use Rattle.std.proofs.Common.{◌≡◌, ℕ, zero, suc, ◌+◌, ◌<◌, List, [], ◌∷◌, ◌++◌, length, take, drop, reverse, get_or, flat_map, refl}
use Rattle.std.proofs.Common.{sym, ap, ◌∙◌, arith}
use Rattle.std.proofs.lemmas.List.{length-append, get_or_append_left, get_or-append-add, reverse-append, take-append-drop}
use Rattle.std.proofs.lemmas.List.{drop_more, drop_all}
use Rattle.std.proofs.lemmas.List.Sums.{sum_by-cons}
use Rattle.std.specs.List.{sum_by, range_with_len}
use Rattle.std.proofs.lemmas.List.Concat.{flat_map-append}

-- the lists joined, the last one first
abbrev pub joined_from_last : {X : Type 0} → List (List X) → List X
joined_from_last levels = flat_map (λ level. level) (reverse levels)

pub joined_from_last-append : {X : Type 0} (xs ys : List (List X)) →
    joined_from_last (xs ++ ys) ≡ joined_from_last ys ++ joined_from_last xs
joined_from_last-append xs ys =
    ap (λ levels. flat_map (λ level. level) levels) (reverse-append xs ys) ∙ flat_map-append (λ level. level) (reverse ys) (reverse xs)

-- block i of level l stands i places behind the levels after l
pub get_or-joined_from_last : {X : Type 0} (levels : List (List X)) (l i : ℕ) (d : X) → l < length levels →
    i < length (get_or levels l []) → get_or (joined_from_last levels) (length (joined_from_last (drop (l + 1) levels)) + i) d ≡
    get_or (get_or levels l []) i d
get_or-joined_from_last {X} levels l i d below inside =
    let x : List X = get_or levels l [] in
    let rest : List (List X) = drop (l + 1) levels in
    let front : List (List X) = take l levels in
    let parts : levels ≡ front ++ (x ∷ rest) = sym (take-append-drop l levels) ∙ ap (λ back. front ++ back) (drop_more levels l [] below) in
    let turned : joined_from_last levels ≡ (joined_from_last rest ++ (x ++ [])) ++ joined_from_last front =
    ap (λ ls. joined_from_last ls) parts
    ∙ joined_from_last-append front (x ∷ rest)
    ∙ ap (λ back. back ++ joined_from_last front) (joined_from_last-append (x ∷ []) rest) in
    let here : length (joined_from_last rest) + i < length (joined_from_last rest ++ (x ++ [])) =
    omega (arith, length-append (joined_from_last rest) (x ++ []), length-append x []) in
    ap (λ blocks. get_or blocks (length (joined_from_last rest) + i) d) turned
    ∙ get_or_append_left (joined_from_last rest ++ (x ++ [])) (joined_from_last front) d (length (joined_from_last rest) + i) here
    ∙ get_or-append-add (joined_from_last rest) (x ++ []) i d
    ∙ get_or_append_left x [] d i inside

pub length-joined_from_last : {X : Type 0} (levels : List (List X)) →
    length (joined_from_last levels) ≡ sum_by (λ level. length level) levels
length-joined_from_last [] = refl
length-joined_from_last (x ∷ levels) =
    omega (
      arith,
      ap length (joined_from_last-append (x ∷ []) levels),
      length-append (joined_from_last levels) (x ++ []),
      length-append x [],
      length-joined_from_last levels,
      sum_by-cons (λ level. length level) x levels,
    )

-- a sum over the rest of a list, by places
pub sum_by-drop : {X : Type 0} (f : X → ℕ) (g : ℕ → ℕ) (xs : List X) (d : X) (t a : ℕ) → a + t ≡ length xs →
    ((i : ℕ) → i < length xs → f (get_or xs i d) ≡ g i) → sum_by f (drop a xs) ≡ sum_by g (range_with_len a t)
sum_by-drop f g xs d zero a e same = ap (λ ys. sum_by f ys) (drop_all a xs (omega arith))
sum_by-drop f g xs d (suc t) a e same =
    ap (λ ys. sum_by f ys) (drop_more xs a d (omega arith))
    ∙ sum_by-cons f (get_or xs a d) (drop (a + 1) xs)
    ∙ ap (λ n. n + sum_by f (drop (a + 1) xs)) (same a (omega arith))
    ∙ ap (λ n. g a + n) (sum_by-drop f g xs d t (a + 1) (omega arith) same)
    ∙ sym (sum_by-cons g a (range_with_len (a + 1) t))
