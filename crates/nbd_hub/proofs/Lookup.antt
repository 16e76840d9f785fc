-- Sessions by number, when the list changes.
use Rattle.std.proofs.Common.{◌≡◌, ◌<◌, ◌≤◌, ◌+◌, ℕ, zero, suc, false, nat_eq, if◌then◌else◌, List, [], ◌∷◌, ◌++◌, Some, None}
use Rattle.std.proofs.Common.{length, get_or, set, inl, inr, refl, sym, ap, ◌∙◌, subst, arith, eq-eqb}
use Rattle.std.specs.List.{remove}
use Rattle.std.proofs.lemmas.Bool.{ne_eqb, cases_eq}
use Rattle.nbd_session.specs.declared.offer.Offer.{Offer}
use Rattle.nbd_hub.specs.Sessions.{Entry, lookup, Place, Passed, Rising, AllOffer}

pub Passed-more : (k : ℕ) (ns : List Entry) (i : ℕ) (d : Entry) → Passed k ns i → i < length ns →
    nat_eq (get_or ns i d).number k ≡ false → Passed k ns (suc i)
Passed-more k [] i d p l e = absurd (omega arith)
Passed-more k (n ∷ ns) zero d p l e = (e, tt)
Passed-more k (n ∷ ns) (suc i) d p l e = (p.0, Passed-more k ns i d p.1 (omega arith) e)

pub Place-of : (k : ℕ) (ns : List Entry) (i : ℕ) (d : Entry) → Passed k ns i → i < length ns → (get_or ns i d).number ≡ k → Place k ns i
Place-of k [] i d p l e = absurd (omega arith)
Place-of k (n ∷ ns) zero d p l e = e
Place-of k (n ∷ ns) (suc i) d p l e = (p.0, Place-of k ns i d p.1 (omega arith) e)

pub lookup-passed : (k : ℕ) (ns : List Entry) → Passed k ns (length ns) → lookup k ns ≡ None
lookup-passed k [] p = refl
lookup-passed k (n ∷ ns) p = rw p.0 (lookup-passed k ns p.1)

pub Place-within : (k : ℕ) (ns : List Entry) (i : ℕ) → Place k ns i → i < length ns
Place-within k [] i p = absurd p
Place-within k (n ∷ ns) zero p = omega arith
Place-within k (n ∷ ns) (suc i) p = let h = Place-within k ns i p.1 in omega arith

pub lookup-at : (k : ℕ) (ns : List Entry) (i : ℕ) (d : Entry) → Place k ns i → lookup k ns ≡ Some (get_or ns i d).session
lookup-at k [] i d p = absurd p
lookup-at k (n ∷ ns) zero d p = rw (eq-eqb n.number k p)
lookup-at k (n ∷ ns) (suc i) d p = rw p.0 (lookup-at k ns i d p.1)

pub number-at : (k : ℕ) (ns : List Entry) (i : ℕ) (d : Entry) → Place k ns i → (get_or ns i d).number ≡ k
number-at k [] i d p = absurd p
number-at k (n ∷ ns) zero d p = p
number-at k (n ∷ ns) (suc i) d p = number-at k ns i d p.1

-- a new one in the place of the first of that number
pub lookup-set : (k : ℕ) (ns : List Entry) (i : ℕ) (x : Entry) → Place k ns i → x.number ≡ k → (j : ℕ) →
    lookup j (set ns i x) ≡ (if nat_eq j k then Some x.session else lookup j ns)
lookup-set k [] i x p e j = absurd p
lookup-set k (n ∷ ns) zero x p e j =
    elim (cases_eq j k) [
      | inl h ↦ rw (eq-eqb j k h, eq-eqb x.number j (e ∙ sym h)) refl
      | inr h ↦ rw (ne_eqb j k h, ne_eqb x.number j (λ q. h (sym q ∙ e)), ne_eqb n.number j (λ q. h (sym q ∙ p))) refl
    ]
lookup-set k (n ∷ ns) (suc i) x p e j =
    elim (cases_eq n.number j) [
      | inl h ↦ let f : nat_eq j k ≡ false = ap (λ m. nat_eq m k) (sym h) ∙ p.0 in rw (f, eq-eqb n.number j h) refl
      | inr h ↦ rw (ne_eqb n.number j h) (lookup-set k ns i x p.1 e j)
    ]

pub Rising-le : (low : ℕ) (ns : List Entry) (next : ℕ) → Rising low ns next → low ≤ next
Rising-le low [] next r = r
Rising-le low (n ∷ ns) next r = let h = Rising-le (suc n.number) ns next r.1 in let g = r.0 in omega arith

pub lookup-below : (low : ℕ) (ns : List Entry) (next j : ℕ) → Rising low ns next → j < low → lookup j ns ≡ None
lookup-below low [] next j r l = refl
lookup-below low (n ∷ ns) next j r l =
    let g = r.0 in
    rw (ne_eqb n.number j (λ q. omega arith)) (lookup-below (suc n.number) ns next j r.1 (omega arith))

pub lookup-above : (low : ℕ) (ns : List Entry) (next j : ℕ) → Rising low ns next → next ≤ j → lookup j ns ≡ None
lookup-above low [] next j r l = refl
lookup-above low (n ∷ ns) next j r l =
    let h = Rising-le (suc n.number) ns next r.1 in
    rw (ne_eqb n.number j (λ q. omega arith)) (lookup-above (suc n.number) ns next j r.1 l)

pub lookup-remove : (k low : ℕ) (ns : List Entry) (next i : ℕ) → Rising low ns next → Place k ns i → (j : ℕ) →
    lookup j (remove ns i) ≡ (if nat_eq j k then None else lookup j ns)
lookup-remove k low [] next i r p j = absurd p
lookup-remove k low (n ∷ ns) next zero r p j =
    elim (cases_eq j k) [
      | inl h ↦ rw (eq-eqb j k h) (lookup-below (suc n.number) ns next j r.1 (omega arith))
      | inr h ↦ rw (ne_eqb j k h, ne_eqb n.number j (λ q. h (sym q ∙ p))) refl
    ]
lookup-remove k low (n ∷ ns) next (suc i) r p j =
    elim (cases_eq n.number j) [
      | inl h ↦ let f : nat_eq j k ≡ false = ap (λ m. nat_eq m k) (sym h) ∙ p.0 in rw (f, eq-eqb n.number j h) refl
      | inr h ↦ rw (ne_eqb n.number j h) (lookup-remove k (suc n.number) ns next i r.1 p.1 j)
    ]

lookup-push-new : (ns : List Entry) (x : Entry) (j : ℕ) → lookup j ns ≡ None → x.number ≡ j → lookup j (ns ++ x ∷ []) ≡ Some x.session
lookup-push-new [] x j l e = rw (eq-eqb x.number j e) refl
lookup-push-new (n ∷ ns) x j l e =
    elim (cases_eq n.number j) [
      | inl h ↦ let f = rw (eq-eqb n.number j h) at l in absurd (let q : ⊥ = cc in q)
      | inr h ↦ let f = rw (ne_eqb n.number j h) at l in rw (ne_eqb n.number j h) (lookup-push-new ns x j f e)
    ]

lookup-push-other : (ns : List Entry) (x : Entry) (j : ℕ) → (x.number ≡ j → ⊥) → lookup j (ns ++ x ∷ []) ≡ lookup j ns
lookup-push-other [] x j e = rw (ne_eqb x.number j e) refl
lookup-push-other (n ∷ ns) x j e =
    elim (cases_eq n.number j) [
      | inl h ↦ rw (eq-eqb n.number j h) refl
      | inr h ↦ rw (ne_eqb n.number j h) (lookup-push-other ns x j e)
    ]

pub lookup-push : (low : ℕ) (ns : List Entry) (next : ℕ) (x : Entry) → Rising low ns next → x.number ≡ next → (j : ℕ) →
    lookup j (ns ++ x ∷ []) ≡ (if nat_eq j next then Some x.session else lookup j ns)
lookup-push low ns next x r e j =
    elim (cases_eq j next) [
      | inl h ↦ rw (eq-eqb j next h) (lookup-push-new ns x j (lookup-above low ns next j r (omega arith)) (e ∙ sym h))
      | inr h ↦ rw (ne_eqb j next h) (lookup-push-other ns x j (λ q. h (sym q ∙ e)))
    ]

pub Rising-push : (low : ℕ) (ns : List Entry) (next : ℕ) (x : Entry) → Rising low ns next → x.number ≡ next →
    Rising low (ns ++ x ∷ []) (next + 1)
Rising-push low [] next x r e = (omega arith, omega arith)
Rising-push low (n ∷ ns) next x r e = (r.0, Rising-push (suc n.number) ns next x r.1 e)

pub Rising-set : (k low : ℕ) (ns : List Entry) (next i : ℕ) (x : Entry) → Rising low ns next → Place k ns i → x.number ≡ k →
    Rising low (set ns i x) next
Rising-set k low [] next i x r p e = absurd p
Rising-set k low (n ∷ ns) next zero x r p e = let g = r.0 in let P : ℕ → Type 0 = λ m. Rising (suc m) ns next in
    (omega arith, subst P (p ∙ sym e) r.1)
Rising-set k low (n ∷ ns) next (suc i) x r p e = (r.0, Rising-set k (suc n.number) ns next i x r.1 p.1 e)

Rising-lower : (low low' : ℕ) (ns : List Entry) (next : ℕ) → low ≤ low' → Rising low' ns next → Rising low ns next
Rising-lower low low' [] next l r = omega arith
Rising-lower low low' (n ∷ ns) next l r = let g = r.0 in (omega arith, r.1)

pub Rising-remove : (k low : ℕ) (ns : List Entry) (next i : ℕ) → Rising low ns next → Place k ns i → Rising low (remove ns i) next
Rising-remove k low [] next i r p = absurd p
Rising-remove k low (n ∷ ns) next zero r p = let g = r.0 in Rising-lower low (suc n.number) ns next (omega arith) r.1
Rising-remove k low (n ∷ ns) next (suc i) r p = (r.0, Rising-remove k (suc n.number) ns next i r.1 p.1)

pub AllOffer-push : (offer : Offer) (ns : List Entry) (x : Entry) → AllOffer offer ns → x.session.offer ≡ offer →
    AllOffer offer (ns ++ x ∷ [])
AllOffer-push offer [] x a e = (e, tt)
AllOffer-push offer (n ∷ ns) x a e = (a.0, AllOffer-push offer ns x a.1 e)

pub AllOffer-set : (offer : Offer) (k : ℕ) (ns : List Entry) (i : ℕ) (x : Entry) → AllOffer offer ns → Place k ns i →
    x.session.offer ≡ offer → AllOffer offer (set ns i x)
AllOffer-set offer k [] i x a p e = absurd p
AllOffer-set offer k (n ∷ ns) zero x a p e = (e, a.1)
AllOffer-set offer k (n ∷ ns) (suc i) x a p e = (a.0, AllOffer-set offer k ns i x a.1 p.1 e)

pub AllOffer-remove : (offer : Offer) (k : ℕ) (ns : List Entry) (i : ℕ) → AllOffer offer ns → Place k ns i → AllOffer offer (remove ns i)
AllOffer-remove offer k [] i a p = absurd p
AllOffer-remove offer k (n ∷ ns) zero a p = a.1
AllOffer-remove offer k (n ∷ ns) (suc i) a p = (a.0, AllOffer-remove offer k ns i a.1 p.1)

pub AllOffer-at : (offer : Offer) (k : ℕ) (ns : List Entry) (i : ℕ) (d : Entry) → AllOffer offer ns → Place k ns i →
    (get_or ns i d).session.offer ≡ offer
AllOffer-at offer k [] i d a p = absurd p
AllOffer-at offer k (n ∷ ns) zero d a p = a.0
AllOffer-at offer k (n ∷ ns) (suc i) d a p = AllOffer-at offer k ns i d a.1 p.1

pub length-remove_at : (k : ℕ) (ns : List Entry) (i : ℕ) → Place k ns i → length (remove ns i) + 1 ≡ length ns
length-remove_at k [] i p = absurd p
length-remove_at k (n ∷ ns) zero p = omega arith
length-remove_at k (n ∷ ns) (suc i) p = let h = length-remove_at k ns i p.1 in omega arith
