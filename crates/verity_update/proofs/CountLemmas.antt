-- How many blocks are changed.
use Rattle.std.proofs.Common.{ℕ, zero, suc, ◌+◌, ◌<◌, ◌≡◌, Bool, cond, refl, sym, ap, ◌∙◌, arith}
use Rattle.std.specs.List.{sum_by, range_with_len}
use Rattle.std.proofs.lemmas.List.{map-id}
use Rattle.std.proofs.lemmas.List.FromFn.{sum_by-map-range_with_len_more}
use Rattle.verity_update.specs.Update.{changed_count}

count_next : (changed : ℕ → Bool) (n : ℕ) → changed_count changed (n + 1) ≡ changed_count changed n + cond (changed n) 1 0
count_next changed n =
    ap (sum_by (λ (i : ℕ). cond (changed i) 1 0)) (sym (map-id (range_with_len 0 (n + 1))))
    ∙ sum_by-map-range_with_len_more (λ (i : ℕ). cond (changed i) 1 0) (λ (i : ℕ). i) 0 n n (omega arith)
    ∙ ap (λ ns. sum_by (λ (i : ℕ). cond (changed i) 1 0) ns + cond (changed n) 1 0) (map-id (range_with_len 0 n))

count_same : (f g : ℕ → Bool) (n : ℕ) → ((i : ℕ) → i < n → f i ≡ g i) → changed_count f n ≡ changed_count g n
count_same f g zero same = refl
count_same f g (suc n) same =
    let next : suc n ≡ n + 1 = omega arith in
    ap (changed_count f) next ∙ count_next f n
    ∙ ap (λ m. m + cond (f n) 1 0) (count_same f g n (λ i below. same i (omega arith)))
    ∙ ap (λ b. changed_count g n + cond b 1 0) (same n (omega arith)) ∙ sym (count_next g n) ∙ sym (ap (changed_count g) next)

-- one block more, which is changed or isn't
pub count_more : (old new : ℕ → Bool) (n m : ℕ) (b : Bool) → ((i : ℕ) → (i ≡ n → ⊥) → new i ≡ old i) → new n ≡ b
    → m ≡ changed_count old n → m + cond b 1 0 ≡ changed_count new (n + 1)
count_more old new n m b others here is =
    ap (λ k. k + cond b 1 0) (is ∙ sym (count_same new old n (λ i below. others i (λ e. absurd (omega arith)))))
    ∙ ap (λ c. changed_count new n + cond c 1 0) (sym here) ∙ sym (count_next new n)
