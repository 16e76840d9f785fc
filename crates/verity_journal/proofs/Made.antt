-- What a side makes is the same of all bytes that lie amid its changes.
use Rattle.std.proofs.Common.{◌≡◌, ◌⊎◌, inl, inr, ⊎_elim, refl, ℕ, zero, suc, ◌+◌, ◌-◌, ◌<◌, ◌≤◌, min, List, [], ◌∷◌, ◌++◌, length}
use Rattle.std.proofs.Common.{get_or, take, drop, replicate, length-append, length-take, length-drop, get_or-take, Bool, true}
use Rattle.std.proofs.Common.{false, sym, ap, subst, ◌∙◌, arith}
use Rattle.std.proofs.lemmas.Bool.{cases_lt}
use Rattle.std.proofs.Math.Seq.{get_or-append_right}
use Rattle.std.proofs.lemmas.List.{get_or_append_left, append_assoc, take_at, drop_at, drop_more, get_or-drop, get_or-replicate}
use Rattle.std.proofs.lemmas.List.{ext_get_or, length-replicate}
use Rattle.verity_store.specs.RawFile.{overwritten, with_length}
use Rattle.verity_disks.specs.Disks.{Torn, Stretched}
use Rattle.verity_disks.proofs.Parts.{length-with_length, with_length_front, with_length_rest}
use Rattle.verity_journal.specs.Plan.{Side, changed, made, Fit, IsSide, Covers, Amid, Unsynced, chosen}

length-over : (at : ℕ) (new bytes : List ℕ) → at + length new ≤ length bytes → length (overwritten at new bytes) ≡ length bytes
length-over at new bytes fits = simp (length-append, length-take, length-drop) (omega arith)

over_in : (at : ℕ) (new bytes : List ℕ) (i : ℕ) → at ≤ length bytes → at ≤ i → i < at + length new →
    get_or (overwritten at new bytes) i 0 ≡ get_or new (i - at) 0
over_in at new bytes i fits low high =
    let front : length (take at bytes) ≡ at = simp length-take (omega arith) in
    let e : i - length (take at bytes) ≡ i - at = omega (arith, front) in
    get_or-append_right (take at bytes) (new ++ drop (at + length new) bytes) i 0 (omega (arith, front))
    ∙ ap (λ (k : ℕ). get_or (new ++ drop (at + length new) bytes) k 0) e
    ∙ get_or_append_left new (drop (at + length new) bytes) 0 (i - at) (omega arith)

over_before : (at : ℕ) (new bytes : List ℕ) (i : ℕ) → at ≤ length bytes → i < at → get_or (overwritten at new bytes) i 0 ≡ get_or bytes i 0
over_before at new bytes i fits low =
    let front : length (take at bytes) ≡ at = simp length-take (omega arith) in
    get_or_append_left (take at bytes) (new ++ drop (at + length new) bytes) 0 i (omega (arith, front)) ∙ get_or-take at bytes i 0 low

over_behind : (at : ℕ) (new bytes : List ℕ) (i : ℕ) → at + length new ≤ length bytes → at + length new ≤ i →
    get_or (overwritten at new bytes) i 0 ≡ get_or bytes i 0
over_behind at new bytes i fits high =
    let front : length (take at bytes) ≡ at = simp length-take (omega arith) in
    let e : i - length (take at bytes) ≡ i - at = omega (arith, front) in
    let k : at + length new + (i - at - length new) ≡ i = omega arith in
    get_or-append_right (take at bytes) (new ++ drop (at + length new) bytes) i 0 (omega (arith, front))
    ∙ ap (λ (k : ℕ). get_or (new ++ drop (at + length new) bytes) k 0) e
    ∙ get_or-append_right new (drop (at + length new) bytes) (i - at) 0 (omega arith)
    ∙ get_or-drop (at + length new) bytes (i - at - length new) 0
    ∙ ap (λ (j : ℕ). get_or bytes j 0) k

-- two lists that agree wherever no change is to come agree after the changes
changed_same : (changes : List (ℕ × List ℕ)) (len : ℕ) (b c : List ℕ) → Fit len changes → length b ≡ len → length c ≡ len
    → ((i : ℕ) → i < len → Covers changes i ⊎ (get_or b i 0 ≡ get_or c i 0)) → changed changes b ≡ changed changes c
changed_same [] len b c fit lb lc agree =
    ext_get_or 0 b c (lb ∙ sym lc) (λ i h. ⊎_elim (λ none. absurd none) (λ same. same) (agree i (omega arith)))
changed_same (change ∷ changes) len b c fit lb lc agree =
    changed_same changes len (overwritten change.0 change.1 b) (overwritten change.0 change.1 c) fit.1
    (length-over change.0 change.1 b (omega (arith, fit.0)) ∙ lb) (length-over change.0 change.1 c (omega (arith, fit.0)) ∙ lc) next
  where
    within : (i : ℕ) → change.0 ≤ i → i < change.0 + length change.1 →
        get_or (overwritten change.0 change.1 b) i 0 ≡ get_or (overwritten change.0 change.1 c) i 0
    within i low high = over_in change.0 change.1 b i (omega (arith, fit.0)) low high
        ∙ sym (over_in change.0 change.1 c i (omega (arith, fit.0)) low high)

    same : (i : ℕ) → get_or b i 0 ≡ get_or c i 0 →
        get_or (overwritten change.0 change.1 b) i 0 ≡ get_or (overwritten change.0 change.1 c) i 0
    same i e =
        ⊎_elim
        (λ before. over_before change.0 change.1 b i (omega (arith, fit.0)) before ∙ e
        ∙ sym (over_before change.0 change.1 c i (omega (arith, fit.0)) before))
        (λ low. ⊎_elim
        (λ high. within i low high)
        (λ behind. over_behind change.0 change.1 b i (omega (arith, fit.0)) behind ∙ e
        ∙ sym (over_behind change.0 change.1 c i (omega (arith, fit.0)) behind))
        (cases_lt i (change.0 + length change.1)))
        (cases_lt i change.0)

    next : (i : ℕ) → i < len → Covers changes i ⊎
        (get_or (overwritten change.0 change.1 b) i 0 ≡ get_or (overwritten change.0 change.1 c) i 0)
    next i h = ⊎_elim (λ covered. ⊎_elim (λ here. inr (within i here.0 here.1)) (λ there. inl there) covered) (λ e. inr (same i e))
        (agree i h)

module _ (side : Side) (is : IsSide side) (old new : List ℕ) (kept : side.keep ≤ length old) (amid : Amid side old new) where
  abbrev two : List ℕ → List ℕ
  two bytes = with_length side.len (with_length side.keep bytes)

  long : (bytes : List ℕ) → length (with_length side.keep bytes) ≡ side.keep
  long bytes = length-with_length side.keep bytes

  front : (bytes : List ℕ) (i : ℕ) → side.keep ≤ length bytes → i < side.keep → get_or (two bytes) i 0 ≡ get_or bytes i 0
  front bytes i k h = with_length_front side.len (with_length side.keep bytes) i (omega (arith, is.kept))
      (omega (arith, long bytes)) ∙ with_length_front side.keep bytes i h (omega arith)

  rest : (bytes : List ℕ) (i : ℕ) → i < side.len → side.keep ≤ i → get_or (two bytes) i 0 ≡ 0
  rest bytes i h k = with_length_rest side.len (with_length side.keep bytes) i h (omega (arith, long bytes))

  agree : (i : ℕ) → i < side.len → Covers side.changes i ⊎ (get_or (two new) i 0 ≡ get_or (two old) i 0)
  agree i h =
      ⊎_elim
      (λ low. ⊎_elim (λ covered. inl covered) (λ same. inr (front new i (amid.kept kept) low ∙ same ∙ sym (front old i kept low)))
      (amid.same kept i low))
      (λ high. inr (rest new i h high ∙ sym (rest old i h high)))
      (cases_lt i side.keep)

  -- the key: whichever of the changes are there, in part or whole, making them again gives the same
  pub made_same : made side new ≡ made side old
  made_same = changed_same side.changes side.len (two new) (two old) is.fit
      (length-with_length side.len (with_length side.keep new)) (length-with_length side.len (with_length side.keep old)) agree

-- what is changed is changed where a change is
changed_elsewhere : (changes : List (ℕ × List ℕ)) (len : ℕ) (b : List ℕ) → Fit len changes → length b ≡ len → (i : ℕ) →
    Covers changes i ⊎ (get_or (changed changes b) i 0 ≡ get_or b i 0)
changed_elsewhere [] len b fit lb i = inr refl
changed_elsewhere (change ∷ changes) len b fit lb i =
    let rest = changed_elsewhere changes len (overwritten change.0 change.1 b) fit.1
    (length-over change.0 change.1 b (omega (arith, fit.0)) ∙ lb) i in
    let go : get_or (overwritten change.0 change.1 b) i 0 ≡ get_or b i 0 → Covers (change ∷ changes) i ⊎
    (get_or (changed changes (overwritten change.0 change.1 b)) i 0 ≡ get_or b i 0) =
    λ e. ⊎_elim (λ covered. inl (inr covered)) (λ same. inr (same ∙ e)) rest in
    ⊎_elim
    (λ before. go (over_before change.0 change.1 b i (omega (arith, fit.0)) before))
    (λ low. ⊎_elim (λ high. inl (inl (low, high))) (λ behind. go (over_behind change.0 change.1 b i (omega (arith, fit.0)) behind))
    (cases_lt i (change.0 + length change.1)))
    (cases_lt i change.0)

pub length-changed : (changes : List (ℕ × List ℕ)) (len : ℕ) (b : List ℕ) → Fit len changes → length b ≡ len →
    length (changed changes b) ≡ len
length-changed [] len b fit lb = lb
length-changed (change ∷ changes) len b fit lb =
    length-changed changes len (overwritten change.0 change.1 b) fit.1 (length-over change.0 change.1 b (omega (arith, fit.0)) ∙ lb)

pub length-made : (side : Side) → IsSide side → (b : List ℕ) → length (made side b) ≡ side.len
length-made side is b = length-changed side.changes side.len _ is.fit (length-with_length side.len (with_length side.keep b))

-- what a side makes lies amid its changes
pub amid_made : (side : Side) → IsSide side → (b : List ℕ) → Amid side b (made side b)
amid_made side is b = record {
  kept = λ k. omega (arith, is.kept, length-made side is b);
  same = λ k i h.
      let two = with_length side.len (with_length side.keep b) in
      let front : get_or two i 0 ≡ get_or b i 0 = with_length_front side.len (with_length side.keep b) i (omega (arith, is.kept))
      (omega (arith, length-with_length side.keep b)) ∙ with_length_front side.keep b i h (omega arith) in
      ⊎_elim (λ covered. inl covered) (λ e. inr (e ∙ front)) (changed_elsewhere side.changes side.len two is.fit
      (length-with_length side.len (with_length side.keep b)) i);
}

pub made_again : (side : Side) → IsSide side → (b : List ℕ) → side.keep ≤ length b → made side (made side b) ≡ made side b
made_again side is b k = made_same side is b (made side b) k (amid_made side is b)

pub amid_self : (side : Side) (bytes : List ℕ) → Amid side bytes bytes
amid_self side bytes = record { kept = λ k. k; same = λ k i h. inr refl }

pub amid_trans : (side : Side) (a b c : List ℕ) → Amid side a b → Amid side b c → Amid side a c
amid_trans side a b c first second = record {
  kept = λ k. second.kept (first.kept k);
  same = λ k i h. ⊎_elim (λ covered. inl covered) (λ e. ⊎_elim (λ covered. inl covered) (λ f. inr (e ∙ f)) (first.same k i h))
      (second.same (first.kept k) i h);
}

-- a length that the side gives, cut short by a stop
pub amid_stretched : (side : Side) (n : ℕ) (a b : List ℕ) → side.keep ≤ n → Stretched n a b → Amid side a b
amid_stretched side n a b k step = record {
  kept = λ long. omega (arith, step.no_shorter);
  same = λ long i h. inr (sym (get_or-take (min (length a) n) b i 0 (omega arith)) ∙ ap (λ (l : List ℕ). get_or l i 0) step.front
      ∙ get_or-take (min (length a) n) a i 0 (omega arith));
}

-- one of the changes, cut short by a stop
pub amid_torn : (side : Side) (at n : ℕ) (a b : List ℕ) → ((i : ℕ) → at ≤ i → i < at + n → Covers side.changes i) → Torn at n a b →
    Amid side a b
amid_torn side at n a b covers step = record {
  kept = λ long. omega (arith, step.no_shorter);
  same = λ long i h.
      ⊎_elim
      (λ before. inr (sym (get_or-take at b i 0 before) ∙ ap (λ (l : List ℕ). get_or l i 0) step.before ∙ get_or-take at a i 0 before))
      (λ low. ⊎_elim
      (λ high. inl (covers i low high))
      (λ behind.
      let e : at + n + (i - (at + n)) ≡ i = omega arith in
      inr (ap (λ (j : ℕ). get_or b j 0) (sym e) ∙ sym (get_or-drop (at + n) b (i - (at + n)) 0)
      ∙ ap (λ (l : List ℕ). get_or l (i - (at + n)) 0) step.after
      ∙ get_or-drop (at + n) a (i - (at + n)) 0 ∙ ap (λ (j : ℕ). get_or a j 0) e))
      (cases_lt i (at + n)))
      (cases_lt i at);
}

pub covers_at : (changes : List (ℕ × List ℕ)) (k : ℕ) → k < length changes → (i : ℕ) → (get_or changes k (0, [])).0 ≤ i →
    i < (get_or changes k (0, [])).0 + length (get_or changes k (0, [])).1 → Covers changes i
covers_at [] k h i low high = absurd (omega arith)
covers_at (change ∷ changes) zero h i low high = inl (low, high)
covers_at (change ∷ changes) (suc k) h i low high = inr (covers_at changes k (omega arith) i low high)

pub fit_at : (changes : List (ℕ × List ℕ)) (len k : ℕ) → k < length changes → Fit len changes →
    (get_or changes k (0, [])).0 + length (get_or changes k (0, [])).1 ≤ len
fit_at [] len k h fit = absurd (omega arith)
fit_at (change ∷ changes) len zero h fit = fit.0
fit_at (change ∷ changes) len (suc k) h fit = fit_at changes len k (omega arith) fit.1

pub amid_change : (side : Side) (k : ℕ) (change : ℕ × List ℕ) (a b : List ℕ) → k < length side.changes →
    change ≡ get_or side.changes k (0, []) → Torn change.0 (length change.1) a b → Amid side a b
amid_change side k change a b h is step =
    amid_torn side change.0 (length change.1) a b
    (λ i low high. covers_at side.changes k h i (omega (arith, low, ap (λ (p : ℕ × List ℕ). p.0) is))
    (omega (arith, high, ap (λ (p : ℕ × List ℕ). p.0) is, ap (λ (p : ℕ × List ℕ). length p.1) is))) step

pub fits_at : (side : Side) (k : ℕ) (change : ℕ × List ℕ) → IsSide side → k < length side.changes →
    change ≡ get_or side.changes k (0, []) → change.0 + length change.1 ≤ side.len
fits_at side k change is h e = omega (
  arith,
  fit_at side.changes side.len k h is.fit,
  ap (λ (p : ℕ × List ℕ). p.0) e,
  ap (λ (p : ℕ × List ℕ). length p.1) e,
)

pub changed_more : (changes : List (ℕ × List ℕ)) (k : ℕ) (change : ℕ × List ℕ) (b c : List ℕ) → k < length changes →
    change ≡ get_or changes k (0, [])
    → c ≡ overwritten change.0 change.1 b → changed (drop (k + 1) changes) c ≡ changed (drop k changes) b
changed_more changes k change b c h is over =
    ap (λ (l : List ℕ). changed (drop (k + 1) changes) l) (over ∙ (λ i. overwritten (is i).0 (is i).1 b))
    ∙ ap (λ (l : List (ℕ × List ℕ)). changed l b) (sym (drop_more changes k (0, []) h))

pub length-written : (at : ℕ) (new bytes : List ℕ) → at + length new ≤ length bytes → length (overwritten at new bytes) ≡ length bytes
length-written at new bytes fits = length-over at new bytes fits

torn_over : (at : ℕ) (new bytes : List ℕ) → at + length new ≤ length bytes → Torn at (length new) bytes (overwritten at new bytes)
torn_over at new bytes fits =
    let front : length (take at bytes) ≡ at = simp length-take (omega arith) in
    let both : length (take at bytes ++ new) ≡ at + length new = simp length-append (omega (arith, front)) in
    let behind = drop (at + length new) bytes in
    let long = length-over at new bytes fits in
    record {
      before = take_at (take at bytes) (new ++ behind) at front;
      after = ap (λ (l : List ℕ). drop (at + length new) l) (sym (append_assoc (take at bytes) new behind))
          ∙ drop_at (take at bytes ++ new) behind (at + length new) both;
      no_shorter = omega (arith, long);
      no_longer = omega (arith, long);
    }

torn_not : (at n : ℕ) (b : List ℕ) → Torn at n b b
torn_not at n b = record { before = refl; after = refl; no_shorter = omega arith; no_longer = omega arith }

-- any of the writes may be there, in any combination
pub any_subset : (changes : List (ℕ × List ℕ)) (bs : List Bool) (old : List ℕ) → Fit (length old) changes →
    Unsynced changes old (changed (chosen bs changes) old)
any_subset [] [] old fit = refl
any_subset [] (b ∷ bs) old fit = refl
any_subset (change ∷ changes) [] old fit = (old, torn_not _ _ old, any_subset changes [] old fit.1)
any_subset (change ∷ changes) (true ∷ bs) old fit =
    let mid = overwritten change.0 change.1 old in
    let same : length mid ≡ length old = length-over change.0 change.1 old fit.0 in
    (mid, torn_over change.0 change.1 old fit.0, any_subset changes bs mid (subst (λ (n : ℕ). Fit n changes) (sym same) fit.1))
any_subset (change ∷ changes) (false ∷ bs) old fit = (old, torn_not _ _ old, any_subset changes bs old fit.1)
