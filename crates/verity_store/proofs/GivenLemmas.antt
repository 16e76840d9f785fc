-- Logs of given blocks that go on.
use Rattle.std.proofs.Common.{◌≡◌, ℕ, ◌≤◌, List, [], ◌∷◌, ◌++◌, length, take, drop, length-take, length-drop, refl, sym, ap, ◌∙◌}
use Rattle.std.proofs.Common.{subst, arith}
use Rattle.std.proofs.Math.Seq.{take-length, take-append_seam}
use Rattle.std.proofs.lemmas.List.{take-take, take-append-drop, drop-append-le}
use Rattle.std.proofs.lemmas.List.Elements.{Contains-append_left, Contains-append_right, Contains-push}
use Rattle.std.specs.Prelude.{Contains}
use Rattle.verity_store.specs.Given.{GoesOn, GaveSince}

pub goes_on_same : (xs : List (ℕ × List ℕ)) → GoesOn xs xs
goes_on_same xs = rw take-length refl

pub goes_on_equal : (xs ys : List (ℕ × List ℕ)) → ys ≡ xs → GoesOn xs ys
goes_on_equal xs ys same = subst (λ zs. GoesOn xs zs) (sym same) (goes_on_same xs)

pub goes_on_push : (xs ys : List (ℕ × List ℕ)) (x : ℕ × List ℕ) → ys ≡ xs ++ x ∷ [] → GoesOn xs ys
goes_on_push xs ys x is = subst (λ zs. GoesOn xs zs) (sym is) (take-append_seam xs (x ∷ []))

pub goes_on_len : (xs ys : List (ℕ × List ℕ)) → GoesOn xs ys → length xs ≤ length ys
goes_on_len xs ys on = let cut = length-take (length xs) ys in let same = ap length on in omega arith

pub goes_on_then : (xs ys zs : List (ℕ × List ℕ)) → GoesOn xs ys → GoesOn ys zs → GoesOn xs zs
goes_on_then xs ys zs first second =
    let le = goes_on_len xs ys first in
    sym (take-take (length xs) (length ys) zs (omega arith)) ∙ ap (λ rows. take (length xs) rows) second ∙ first

-- what was given stays so
pub since_on : (old new : List (ℕ × List ℕ)) → GoesOn old new → (mark n : ℕ) (block : List ℕ) → GaveSince old mark n block →
    GaveSince new mark n block
since_on old new on mark n block gave =
    let more : List (ℕ × List ℕ) = drop (length old) new in
    let is : old ++ more ≡ new = ap (λ front. front ++ more) (sym on) ∙ take-append-drop (length old) new in
    let inside : mark ≤ length old = let len = length-drop mark old in omega (arith, gave.1) in
    subst (λ rows. Contains (drop mark rows) (n, block)) is
    (subst (λ rows. Contains rows (n, block)) (sym (drop-append-le mark old more inside))
    (Contains-append_left (drop mark old) more (n, block) gave))

-- a block that is given now is given since any mark that was made before
pub since_now : (old : List (ℕ × List ℕ)) (mark n : ℕ) (block : List ℕ) → mark ≤ length old →
    GaveSince (old ++ (n, block) ∷ []) mark n block
since_now old mark n block inside =
    subst (λ rows. Contains rows (n, block)) (sym (drop-append-le mark old ((n, block) ∷ []) inside))
    (Contains-push (drop mark old) (n, block))

-- what was given since a mark was given
pub since_all : (given : List (ℕ × List ℕ)) (mark n : ℕ) (block : List ℕ) → GaveSince given mark n block → Contains given (n, block)
since_all given mark n block gave =
    subst (λ rows. Contains rows (n, block)) (take-append-drop mark given)
    (Contains-append_right (take mark given) (drop mark given) (n, block) gave)
