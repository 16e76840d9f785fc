-- Sums over the first numbers.
use Rattle.std.proofs.Common.{◌≡◌, ℕ, zero, suc, ◌+◌, ◌-◌, ◌≤◌, refl, sym, ap, ◌∙◌, arith}
use Rattle.std.specs.Prelude.{sum_by}
use Rattle.std.specs.List.{range_with_len}
use Rattle.std.proofs.lemmas.List.{map-id}
use Rattle.std.proofs.lemmas.List.FromFn.{sum_by-map-range_with_len_more}

-- a sum over one number more
pub sum_more : (f : ℕ → ℕ) (l : ℕ) → sum_by f (range_with_len 0 (suc l)) ≡ sum_by f (range_with_len 0 l) + f l
sum_more f l =
    let step : suc l ≡ l + 1 = omega arith in
    ap (λ m. sum_by f (range_with_len 0 m)) step
    ∙ ap (λ ls. sum_by f ls) (sym (map-id (range_with_len 0 (l + 1))))
    ∙ sum_by-map-range_with_len_more f (λ x. x) 0 l l (omega arith)
    ∙ ap (λ ls. sum_by f ls + f l) (map-id (range_with_len 0 l))

sum_on : (f : ℕ → ℕ) (t a b : ℕ) → b ≡ t + a → sum_by f (range_with_len 0 a) ≤ sum_by f (range_with_len 0 b)
sum_on f zero a b is =
    let at : b ≡ a = omega arith in
    let same = ap (λ m. sum_by f (range_with_len 0 m)) at in
    omega arith
sum_on f (suc t) a b is =
    let rest = sum_on f t a (t + a) refl in
    let more = sum_more f (t + a) in
    let at : b ≡ suc (t + a) = omega arith in
    let same = ap (λ m. sum_by f (range_with_len 0 m)) at in
    omega arith

-- a sum over more numbers
pub sum_most : (f : ℕ → ℕ) (a b : ℕ) → a ≤ b → sum_by f (range_with_len 0 a) ≤ sum_by f (range_with_len 0 b)
sum_most f a b low = sum_on f (b - a) a b (omega arith)
