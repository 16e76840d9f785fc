-- The numbers of the blocks one level up, one more of them.
use Rattle.std.proofs.Common.{◌≡◌, ℕ, suc, ◌-◌, ◌<◌, eqb, List, [], ◌∷◌, ◌++◌, length, get_or}
use Rattle.std.proofs.Common.{⊎_elim, refl, sym, ap, ◌∙◌, subst, arith}
use Rattle.std.specs.List.{dedup, dedup_from}
use Rattle.std.proofs.lemmas.Bool.{cases_Bool, cond-true, cond-false, eq-eqb, ne_eqb}

abbrev last_of : List ℕ → ℕ
last_of ns = get_or ns (length ns - 1) 0

-- some are left
some_left : (ns : List ℕ) (k : ℕ) → 0 < length (dedup_from eqb k ns)
some_left [] k = omega arith
some_left (n ∷ ns) k =
    ⊎_elim
    (λ t. subst (λ (r : List ℕ). 0 < length r) (sym (cond-true (eqb n k) (dedup_from eqb k ns) (k ∷ dedup_from eqb n ns) t))
    (some_left ns k))
    (λ f. subst (λ (r : List ℕ). 0 < length r) (sym (cond-false (eqb n k) (dedup_from eqb k ns) (k ∷ dedup_from eqb n ns) f)) (omega arith))
    (cases_Bool (eqb n k))

last_of_more : (k : ℕ) (ns : List ℕ) → 0 < length ns → last_of (k ∷ ns) ≡ last_of ns
last_of_more k [] some = absurd (omega arith)
last_of_more k (n ∷ ns) some =
    let a : length (k ∷ n ∷ ns) - 1 ≡ suc (length ns) = omega arith in
    let b : length (n ∷ ns) - 1 ≡ length ns = omega arith in
    ap (λ m. get_or (k ∷ n ∷ ns) m 0) a ∙ ap (λ m. get_or (n ∷ ns) m 0) (sym b)

-- a number that is the last one already adds nothing
same_from : (ns : List ℕ) (k x : ℕ) → last_of (dedup_from eqb k ns) ≡ x → dedup_from eqb k (ns ++ x ∷ []) ≡ dedup_from eqb k ns
same_from [] k x is = cond-true (eqb x k) (k ∷ []) (k ∷ x ∷ []) (eq-eqb x k (sym is))
same_from (n ∷ ns) k x is =
    let far : List ℕ = ns ++ x ∷ [] in
    ⊎_elim
    (λ t.
    let here = cond-true (eqb n k) (dedup_from eqb k ns) (k ∷ dedup_from eqb n ns) t in
    cond-true (eqb n k) (dedup_from eqb k far) (k ∷ dedup_from eqb n far) t
    ∙ same_from ns k x (ap last_of (sym here) ∙ is) ∙ sym here)
    (λ f.
    let here = cond-false (eqb n k) (dedup_from eqb k ns) (k ∷ dedup_from eqb n ns) f in
    cond-false (eqb n k) (dedup_from eqb k far) (k ∷ dedup_from eqb n far) f
    ∙ ap (λ r. k ∷ r) (same_from ns n x (sym (last_of_more k (dedup_from eqb n ns) (some_left ns n)) ∙ ap last_of (sym here) ∙ is))
    ∙ sym here)
    (cases_Bool (eqb n k))

-- another one comes behind
other_from : (ns : List ℕ) (k x : ℕ) → (last_of (dedup_from eqb k ns) ≡ x → ⊥) →
    dedup_from eqb k (ns ++ x ∷ []) ≡ dedup_from eqb k ns ++ x ∷ []
other_from [] k x apart = cond-false (eqb x k) (k ∷ []) (k ∷ x ∷ []) (ne_eqb x k (λ e. apart (sym e)))
other_from (n ∷ ns) k x apart =
    let far : List ℕ = ns ++ x ∷ [] in
    ⊎_elim
    (λ t.
    let here = cond-true (eqb n k) (dedup_from eqb k ns) (k ∷ dedup_from eqb n ns) t in
    cond-true (eqb n k) (dedup_from eqb k far) (k ∷ dedup_from eqb n far) t
    ∙ other_from ns k x (λ is. apart (ap last_of here ∙ is)) ∙ ap (λ r. r ++ x ∷ []) (sym here))
    (λ f.
    let here = cond-false (eqb n k) (dedup_from eqb k ns) (k ∷ dedup_from eqb n ns) f in
    cond-false (eqb n k) (dedup_from eqb k far) (k ∷ dedup_from eqb n far) f
    ∙ ap (λ r. k ∷ r) (other_from ns n x (λ is. apart (ap last_of here ∙ last_of_more k (dedup_from eqb n ns) (some_left ns n) ∙ is)))
    ∙ ap (λ r. r ++ x ∷ []) (sym here))
    (cases_Bool (eqb n k))

dedup_same : (ns : List ℕ) (x : ℕ) → 0 < length (dedup eqb ns) → last_of (dedup eqb ns) ≡ x → dedup eqb (ns ++ x ∷ []) ≡ dedup eqb ns
dedup_same [] x some is = absurd (omega arith)
dedup_same (n ∷ ns) x some is = same_from ns n x is

dedup_other : (ns : List ℕ) (x : ℕ) → (0 < length (dedup eqb ns) → last_of (dedup eqb ns) ≡ x → ⊥) →
    dedup eqb (ns ++ x ∷ []) ≡ dedup eqb ns ++ x ∷ []
dedup_other [] x apart = refl
dedup_other (n ∷ ns) x apart = other_from ns n x (apart (some_left ns n))

-- the same of a list that is made so
pub dedup_kept : (up ns : List ℕ) (x : ℕ) → up ≡ dedup eqb ns → 0 < length up → get_or up (length up - 1) 0 ≡ x →
    up ≡ dedup eqb (ns ++ x ∷ [])
dedup_kept up ns x is some last =
    is ∙ sym (dedup_same ns x (subst (λ (u : List ℕ). 0 < length u) is some) (ap last_of (sym is) ∙ last))

pub dedup_pushed : (up ns : List ℕ) (x : ℕ) → up ≡ dedup eqb ns → (0 < length up → get_or up (length up - 1) 0 ≡ x → ⊥) →
    up ++ x ∷ [] ≡ dedup eqb (ns ++ x ∷ [])
dedup_pushed up ns x is apart =
    ap (λ u. u ++ x ∷ []) is
    ∙ sym (dedup_other ns x (λ some last. apart (subst (λ (u : List ℕ). 0 < length u) (sym is) some) (ap last_of is ∙ last)))
