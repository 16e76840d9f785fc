-- What a report of a slice that names no place says.
use Rattle.std.proofs.Common.{ℕ, zero, suc, ◌+◌, ◌-◌, ◌*◌, ◌/◌, ◌<◌, ◌≤◌, ◌≡◌, ◌≢◌, Bool, true, false, List, [], ◌∷◌, ◌++◌, length}
use Rattle.std.proofs.Common.{refl, sym, ap, ◌∙◌, subst, inl, inr, arith}
use Rattle.std.specs.Prelude.{◌⊎◌, if◌then◌else◌, nat_lt}
use Rattle.std.specs.Str.{bytes_eq}
use Rattle.std.specs.List.{filter}
use Rattle.std.proofs.lemmas.Bool.{false≢true, cases_eq, cases_lt, lt-ltb}
use Rattle.std.proofs.lemmas.List.Elements.{filter-append}
use Rattle.std.proofs.lemmas.Slice.Eq.{bytes_eq-Decides}
use Rattle.verity_slice.specs.Slices.{IsIn, cut, run_of, CutsEvenly}
use Rattle.verity_slice.specs.declared.run.Run.{Run}
use Rattle.verity_store.specs.declared.store.BlockStore as store
use Rattle.verity_chain.specs.Table.{Table, IsTable, branching, height, row_len}
use Rattle.verity_chain.specs.Chain.{Given, EndsChain}
use Rattle.verity_chain.specs.declared.place.Place.{Place}
use Rattle.verity_chain.proofs.ChainLaw.{parent_below}
use Rattle.verity_chain.proofs.ChainLemmas.{EndsChain-grows}
use Rattle.verity_chain.proofs.TableLaws.{row_len-first}
use Rattle.verity_report.specs.declared.finding.Finding.TheVariants.{Good, Bad, Unread, Unchecked}
use Rattle.verity_report.specs.declared.finding.Finding.{Finding}
use Rattle.verity_report.specs.declared.finding.Verdict.{Verdict}
use Rattle.verity_report.specs.declared.finding.Verdict.TheVariants as verdicts
use Rattle.verity_report.specs.Finding.{Held, Spot, IsChecked, is_among, judge, below, alone, found, finding}
use Rattle.verity_report.specs.Report.{entry, place_of, row_entries, entries_from, listed}
use Rattle.verity_report.specs.Stores.{given_between}
use Rattle.verity_slice_report.specs.Sliced.{IsOfSlice, is_of, IsSliceReport}
use Rattle.verity_slice_report.specs.Verified.{AreChained, AllChained, IsVerified, given_of, given_in_all}
use Rattle.verity_slice_report.proofs.PlaceLemmas.{parent_of_slice, slice_of, and_true}

abbrev is_good : Finding → Bool
is_good Good = true
is_good Bad = false
is_good Unread = false
is_good Unchecked = false

abbrev is_unchecked : Finding → Bool
is_unchecked Good = false
is_unchecked Bad = false
is_unchecked Unread = false
is_unchecked Unchecked = true

good_test : (failed same : Bool) → judge failed same ≡ Good → same ≡ true
good_test true same e = absurd (false≢true (ap is_good e))
good_test false true e = refl
good_test false false e = absurd (false≢true (ap is_good e))

never_unchecked : (failed same : Bool) → judge failed same ≡ Unchecked → ⊥
never_unchecked true same e = false≢true (ap is_unchecked e)
never_unchecked false true e = false≢true (ap is_unchecked e)
never_unchecked false false e = false≢true (ap is_unchecked e)

-- what was found below a place was found by itself only where that one is good
below_good : (f g : Finding) → below f g ≡ Good → (f ≡ Good) × (g ≡ Good)
below_good Good g e = (refl, e)
below_good Bad g e = absurd (false≢true (ap is_good e))
below_good Unread g e = absurd (false≢true (ap is_good e))
below_good Unchecked g e = absurd (false≢true (ap is_good e))

good_of : (f : Finding) → (f ≡ Good) ⊎ (f ≡ Unchecked) → (f ≡ Unchecked → ⊥) → f ≡ Good
good_of f (inl good) never = good
good_of f (inr none) never = absurd (never none)

-- what isn't listed
nil_left : (xs ys : List (Place × Verdict)) → xs ++ ys ≡ [] → xs ≡ []
nil_left [] ys e = refl
nil_left (x ∷ xs) ys e = absurd (cc)

nil_right : (xs ys : List (Place × Verdict)) → xs ++ ys ≡ [] → ys ≡ []
nil_right [] ys e = e
nil_right (x ∷ xs) ys e = absurd (cc)

module _ (p : Place × Verdict → Bool) where
  none_left : (xs ys : List (Place × Verdict)) → filter p (xs ++ ys) ≡ [] → filter p xs ≡ []
  none_left xs ys e = nil_left (filter p xs) (filter p ys) (sym (filter-append p xs ys) ∙ e)

  none_right : (xs ys : List (Place × Verdict)) → filter p (xs ++ ys) ≡ [] → filter p ys ≡ []
  none_right xs ys e = nil_right (filter p xs) (filter p ys) (sym (filter-append p xs ys) ∙ e)

  one_is : (x : Place × Verdict) → p x ≡ true → filter p (x ∷ []) ≡ [] → ⊥
  one_is x same e = by_cases (subst (λ (b : Bool). (if b then x ∷ [] else []) ≡ []) same e) where
    by_cases : x ∷ [] ≡ [] → ⊥
    by_cases nil = absurd (cc)

  unlisted : (f : Finding) (place : Place) → ((verdict : Verdict) → p (place, verdict) ≡ true) → filter p (entry f place) ≡ []
      → (f ≡ Good) ⊎ (f ≡ Unchecked)
  unlisted Good place is e = inl refl
  unlisted Bad place is e = absurd (one_is (place, verdicts.Bad) (is verdicts.Bad) e)
  unlisted Unread place is e = absurd (one_is (place, verdicts.Unread) (is verdicts.Unread) e)
  unlisted Unchecked place is e = inr refl

-- a place of the slice is named as one
is_of_place : (t : Table) → IsTable t → (run : Run) (r i : ℕ) → r ≤ height t → IsOfSlice t run r i → (verdict : Verdict)
    → is_of t run (place_of r i, verdict) ≡ true
is_of_place t ok run zero i row is verdict = slice_of t ok run 0 i is
is_of_place t ok run (suc l) i row is verdict =
    and_true (nat_lt l (height t)) _ (lt-ltb l (height t) (omega (arith, row))) (slice_of t ok run (suc l) i is)

module _ (t : Table) (ok : IsTable t) (run : Run) (given : Given) (held : Held) (failed : List Spot)
    (gave : (r i : ℕ) → r ≤ height t → i < row_len t r → IsOfSlice t run r i → IsChecked (finding t held failed r i)
    → given r i (held r i)) where
  none_in_row : (r n : ℕ) → r ≤ height t → filter (is_of t run) (row_entries t held failed r n) ≡ [] → (i : ℕ) → i < n
      → IsOfSlice t run r i → (finding t held failed r i ≡ Good) ⊎ (finding t held failed r i ≡ Unchecked)
  none_in_row r zero row e i low is = absurd (omega (arith, low))
  none_in_row r (suc n) row e i low is =
      let front : List (Place × Verdict) = row_entries t held failed r n in
      let last : List (Place × Verdict) = entry (finding t held failed r n) (place_of r n) in
      elim (cases_eq i n) [
        | inl same ↦ subst (λ j. (finding t held failed r j ≡ Good) ⊎ (finding t held failed r j ≡ Unchecked)) (sym same)
            (unlisted (is_of t run) (finding t held failed r n) (place_of r n)
            (is_of_place t ok run r n row (subst (λ j. IsOfSlice t run r j) same is)) (none_right (is_of t run) front last e))
        | inr ne ↦ none_in_row r n row (none_left (is_of t run) front last e) i (omega (arith, low, ne)) is
      ]

  none_from : (h : ℕ) → h ≤ height t → filter (is_of t run) (entries_from t held failed h) ≡ [] → (r i : ℕ) → r ≤ h → i < row_len t r
      → IsOfSlice t run r i → (finding t held failed r i ≡ Good) ⊎ (finding t held failed r i ≡ Unchecked)
  none_from zero top e r i high low is =
      let here : r ≡ 0 = omega (arith, high) in
      subst (λ q. i < row_len t q → IsOfSlice t run q i → (finding t held failed q i ≡ Good) ⊎ (finding t held failed q i ≡ Unchecked))
      (sym here) (λ low is. none_in_row 0 (row_len t 0) (omega arith) e i low is) low is
  none_from (suc h) top e r i high low is =
      let front : List (Place × Verdict) = row_entries t held failed (suc h) (row_len t (suc h)) in
      let rest : List (Place × Verdict) = entries_from t held failed h in
      elim (cases_eq r (suc h)) [
        | inl same ↦
            subst (λ q. i < row_len t q → IsOfSlice t run q i → (finding t held failed q i ≡ Good)
            ⊎ (finding t held failed q i ≡ Unchecked)) (sym same)
            (λ low is. none_in_row (suc h) (row_len t (suc h)) top (none_left (is_of t run) front rest e) i low is) low is
        | inr ne ↦ none_from h (omega (arith, top)) (none_right (is_of t run) front rest e) r i (omega (arith, high, ne)) low is
      ]

  -- a place of the slice that isn't named is good
  all_good : ((r i : ℕ) → r ≤ height t → i < row_len t r → IsOfSlice t run r i
      → (finding t held failed r i ≡ Good) ⊎ (finding t held failed r i ≡ Unchecked))
      → (above r i : ℕ) → r + above ≡ height t → i < row_len t r → IsOfSlice t run r i → found t held failed above r i ≡ Good
  all_good some zero r i e low is =
      let rows : height t - r ≡ zero = omega (arith, e) in
      good_of (found t held failed zero r i)
      (subst (λ m. (found t held failed m r i ≡ Good) ⊎ (found t held failed m r i ≡ Unchecked)) rows
      (some r i (omega (arith, e)) low is))
      (never_unchecked (is_among failed r i) _)
  all_good some (suc above) r i e low is =
      let rows : height t - r ≡ suc above = omega (arith, e) in
      let parent : found t held failed above (suc r) (i / branching t) ≡ Good =
      all_good some above (suc r) (i / branching t) (omega (arith, e)) (parent_below t ok r i low) (parent_of_slice t ok run r i is) in
      good_of (found t held failed (suc above) r i)
      (subst (λ m. (found t held failed m r i ≡ Good) ⊎ (found t held failed m r i ≡ Unchecked)) rows
      (some r i (omega (arith, e)) low is))
      (λ none. never_unchecked (is_among failed r i) _
      (sym (ap (λ f. below f (alone t held failed (suc above) r i)) parent) ∙ none))

  -- a block that was checked was given
  here : (above r i : ℕ) → r + above ≡ height t → i < row_len t r → IsOfSlice t run r i → IsChecked (found t held failed above r i)
      → given r i (held r i)
  here above r i e low is checked =
      let rows : above ≡ height t - r = omega (arith, e) in
      gave r i (omega (arith, e)) low is (subst (λ m. IsChecked (found t held failed m r i)) rows checked)

  -- a good place of the slice ends a chain
  chained : (above r i : ℕ) → r + above ≡ height t → i < row_len t r → IsOfSlice t run r i → found t held failed above r i ≡ Good
      → EndsChain t given r i (held r i)
  chained zero r i e low is good = (
    [],
    record {
      above_it = omega (arith, e);
      link = record {
        gave = here zero r i e low is (subst IsChecked (sym good) tt);
        digest = (bytes_eq-Decides _ _).0 (good_test (is_among failed r i) _ good);
      };
    },
  )
  chained (suc above) r i e low is good =
      let both = below_good (found t held failed above (suc r) (i / branching t)) (alone t held failed (suc above) r i) good in
      let parent = chained above (suc r) (i / branching t) (omega (arith, e)) (parent_below t ok r i low)
      (parent_of_slice t ok run r i is) both.0 in (
        held (suc r) (i / branching t) ∷ parent.0,
        record {
          above_it = (parent.1.link, parent.1.above_it);
          link = record {
            gave = here (suc above) r i e low is (subst IsChecked (sym good) tt);
            digest = (bytes_eq-Decides _ _).0 (good_test (is_among failed r i) _ both.1);
          };
        },
      )

module _ {D H : Type 0} (of_data : store.Ghosts D) (of_hash : store.Ghosts H) (t : Table) (ok : IsTable t) where
  -- of each data block of the run one was given that ends a chain
  pub verified_is_chained : (run : Run) (image : D) (device : H) (unchecked : ℕ) → run.end ≤ t.data_blocks
      → (report : IsSliceReport of_data of_hash t run image device [] unchecked)
      → AreChained t (given_between of_data of_hash t image device report.read.image' report.read.device') run
  verified_is_chained run image device unchecked within report n is =
      let read = report.read in
      let given : Given = given_between of_data of_hash t image device read.image' read.device' in
      let none : filter (is_of t run) (entries_from t read.blocks read.failed (height t)) ≡ [] =
      ap (filter (is_of t run)) (sym read.all_are) ∙ sym report.faults_are in
      let some = none_from t ok run given read.blocks read.failed read.gave (height t) (omega arith) none in
      let first : n < row_len t 0 = omega (arith, is.1, within, row_len-first t) in
      let good = all_good t ok run given read.blocks read.failed read.gave some (height t) 0 n (omega arith) first (n, is, refl) in
      (read.blocks 0 n, chained t ok run given read.blocks read.failed read.gave (height t) 0 n (omega arith) first (n, is, refl) good)

-- one of the runs has each thing
in_some : (len count : ℕ) → cut len count 0 ≡ 0 → (m n : ℕ) → n < cut len count m
    → (k : ℕ) × (k < m) × (cut len count k ≤ n) × (n < cut len count (suc k))
in_some len count first zero n low = absurd (omega (arith, low, first))
in_some len count first (suc m) n low =
    elim (cases_lt n (cut len count m)) [
      | inl lt ↦ let at = in_some len count first m n lt in (at.0, omega (arith, at.1), at.2, at.3)
      | inr ge ↦ (m, omega arith, ge, low)
    ]

-- no run ends behind the last thing
climbs : (len count : ℕ) → CutsEvenly len count → (left k : ℕ) → k + left ≡ count → cut len count k ≤ len
climbs len count cuts zero k e =
    let same : k ≡ count = omega (arith, e) in omega (arith, ap (cut len count) same, cuts.last)
climbs len count cuts (suc left) k e = omega (arith, cuts.least k, climbs len count cuts left (k + 1) (omega (arith, e)))

module _ {D H : Type 0} (of_data : store.Ghosts D) (of_hash : store.Ghosts H) (t : Table) (ok : IsTable t) (count : ℕ)
    (cuts : CutsEvenly t.data_blocks count) (each : (k : ℕ) → k < count → IsVerified of_data of_hash t (suc k) count) where
  -- where all slices were found right, of each data block of the volume one was given that ends a chain
  pub all_verified : AllChained t (given_in_all of_data of_hash t count each)
  all_verified n low =
      let len : ℕ = t.data_blocks in
      let at = in_some len count cuts.first count n (omega (arith, low, cuts.last)) in
      let v = each at.0 at.1 in
      let run : Run = run_of (record { index = suc at.0; count = count }) len in
      let before : suc at.0 - 1 ≡ at.0 = omega arith in
      let inside : IsIn run n = (subst (λ k. cut len count k ≤ n) (sym before) at.2, at.3) in
      let within : run.end ≤ len = climbs len count cuts (count - suc at.0) (suc at.0) (omega (arith, at.1)) in
      let c = verified_is_chained of_data of_hash t ok run v.image v.device v.unchecked within v.report n inside in (
        c.0,
        EndsChain-grows t (given_of of_data of_hash t (suc at.0) count v) (given_in_all of_data of_hash t count each)
            (λ r i y gave. (at.0, at.1, gave)) zero n c.0 c.1,
      )
