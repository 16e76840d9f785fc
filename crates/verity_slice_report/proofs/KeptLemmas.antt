-- Which places of a report are kept, and how many lie below them.
use Rattle.std.proofs.Common.{ℕ, zero, suc, ◌+◌, ◌-◌, ◌^◌, ◌<◌, ◌≤◌, ◌≡◌, ◌++◌, List, [], ◌∷◌, length, take, min, Bool, true, false}
use Rattle.std.proofs.Common.{refl, sym, ap, ◌∙◌, subst, arith, append-nil}
use Rattle.std.specs.Prelude.{All, get_or, if◌then◌else◌}
use Rattle.std.specs.List.{filter, sum_by}
use Rattle.std.proofs.lemmas.Bool.{false≢true}
use Rattle.std.proofs.lemmas.List.{take_more}
use Rattle.std.proofs.lemmas.List.Elements.{All-nil, All-cons, filter-append}
use Rattle.std.proofs.lemmas.List.Sums.{sum_by_push}

module _ {X : Type 0} (p : X → Bool) where
  one_kept : (x : X) → p x ≡ true → filter p (x ∷ []) ≡ x ∷ []
  one_kept x same = ap (λ (b : Bool). if b then x ∷ [] else []) same

  none_kept : (x : X) → p x ≡ false → filter p (x ∷ []) ≡ []
  none_kept x same = ap (λ (b : Bool). if b then x ∷ [] else []) same

  -- what is kept of one more
  pub kept_more : (xs : List X) (i : ℕ) (d : X) → i < length xs → p (get_or xs i d) ≡ true
      → filter p (take (i + 1) xs) ≡ filter p (take i xs) ++ get_or xs i d ∷ []
  kept_more xs i d low same = ap (filter p) (take_more xs i d low) ∙ filter-append p (take i xs) (get_or xs i d ∷ [])
      ∙ ap (λ ys. filter p (take i xs) ++ ys) (one_kept (get_or xs i d) same)

  pub kept_same : (xs : List X) (i : ℕ) (d : X) → i < length xs → p (get_or xs i d) ≡ false
      → filter p (take (i + 1) xs) ≡ filter p (take i xs)
  kept_same xs i d low same = ap (filter p) (take_more xs i d low) ∙ filter-append p (take i xs) (get_or xs i d ∷ [])
      ∙ ap (λ ys. filter p (take i xs) ++ ys) (none_kept (get_or xs i d) same) ∙ append-nil (filter p (take i xs))

  -- each that is kept passes the test
  pub kept_each : (xs : List X) → All (λ x. p x ≡ true) (filter p xs)
  kept_each [] = All-nil (λ x. p x ≡ true)
  kept_each (x ∷ xs) = each_more x xs (kept_each xs) (p x) refl where
    each_more : (y : X) (ys : List X) → All (λ z. p z ≡ true) (filter p ys) → (b : Bool) → p y ≡ b
        → All (λ z. p z ≡ true) (if b then y ∷ filter p ys else filter p ys)
    each_more y ys rest true e = All-cons (λ z. p z ≡ true) y (filter p ys) e rest
    each_more y ys rest false e = rest

-- a count that goes no further than `most`, of one more
pub counted_more : {X : Type 0} (f : X → ℕ) (most : ℕ) (xs : List X) (i : ℕ) (d : X) (old new : ℕ) → i < length xs
    → old ≡ min most (sum_by f (take i xs)) → new ≡ min most (old + f (get_or xs i d)) → new ≡ min most (sum_by f (take (i + 1) xs))
counted_more f most xs i d old new low was is =
    omega (arith, was, is, ap (sum_by f) (take_more xs i d low), sum_by_push f (take i xs) (get_or xs i d))

-- a test that fails where another would have to succeed
pub not_true : (b c : Bool) → (b ≡ true → c ≡ true) → c ≡ false → b ≡ false
not_true true c f e = absurd (false≢true (sym e ∙ f refl))
not_true false c f e = refl
