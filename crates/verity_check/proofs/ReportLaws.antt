-- What a report of given blocks says.
use Rattle.std.proofs.Common.{ℕ, zero, suc, ◌+◌, ◌-◌, ◌/◌, ◌<◌, ◌≤◌, ◌≡◌, ◌≢◌, Bool, true, false, List, [], ◌∷◌, ◌++◌, length}
use Rattle.std.proofs.Common.{refl, sym, ap, ◌∙◌, subst, inl, inr, arith}
use Rattle.std.specs.Prelude.{◌⊎◌, Contains}
use Rattle.std.specs.Str.{bytes_eq}
use Rattle.std.proofs.lemmas.Bool.{false≢true, cases_eq}
use Rattle.std.proofs.lemmas.List.Elements.{Contains-append_cases}
use Rattle.std.proofs.lemmas.Slice.Eq.{bytes_eq-Decides}
use Rattle.verity_chain.specs.Table.{Table, IsTable, branching, height, row_len}
use Rattle.verity_chain.specs.Chain.{Given, AreSized, EndsChain, WrongAt}
use Rattle.verity_chain.specs.Right.{Fits, IsRight, GaveOther}
use Rattle.verity_chain.specs.declared.place.Place.{Place}
use Rattle.verity_chain.proofs.ChainLaw.{parent_below, other_given, chain_right}
use Rattle.verity_chain.proofs.TableLaws.{row_len-first}
use Rattle.verity_report.specs.declared.finding.Finding.TheVariants.{Good, Bad, Unread, Unchecked}
use Rattle.verity_report.specs.declared.finding.Finding.{Finding}
use Rattle.verity_report.specs.declared.finding.Verdict.{Verdict}
use Rattle.verity_report.specs.declared.finding.Verdict.TheVariants as verdicts
use Rattle.verity_report.specs.Finding.{Held, Spot, IsChecked, is_among, judge, below, alone, found, finding}
use Rattle.verity_report.specs.Report.{IsReportGiven, entry, place_of, row_entries, entries_from}
use Rattle.verity_check.specs.Reported.{IsWrongPlace, AllChained}

abbrev is_good : Finding → Bool
is_good Good = true
is_good Bad = false
is_good Unread = false
is_good Unchecked = false

abbrev is_bad : Finding → Bool
is_bad Good = false
is_bad Bad = true
is_bad Unread = false
is_bad Unchecked = false

abbrev is_unread : Finding → Bool
is_unread Good = false
is_unread Bad = false
is_unread Unread = true
is_unread Unchecked = false

abbrev is_unchecked : Finding → Bool
is_unchecked Good = false
is_unchecked Bad = false
is_unchecked Unread = false
is_unchecked Unchecked = true

good_test : (failed same : Bool) → judge failed same ≡ Good → same ≡ true
good_test true same e = absurd (false≢true (ap is_good e))
good_test false true e = refl
good_test false false e = absurd (false≢true (ap is_good e))

bad_test : (failed same : Bool) → judge failed same ≡ Bad → same ≡ false
bad_test true same e = absurd (false≢true (ap is_bad e))
bad_test false true e = absurd (false≢true (ap is_bad e))
bad_test false false e = refl

never_unchecked : (failed same : Bool) → judge failed same ≡ Unchecked → ⊥
never_unchecked true same e = false≢true (ap is_unchecked e)
never_unchecked false true e = false≢true (ap is_unchecked e)
never_unchecked false false e = false≢true (ap is_unchecked e)

-- what was found below a place was found by itself only where that one is good
below_good : (f g : Finding) → below f g ≡ Good → (f ≡ Good) × (g ≡ Good)
below_good Good g e = (refl, e)
below_good Bad g e = absurd (false≢true (ap is_good e))
below_good Unread g e = absurd (false≢true (ap is_good e))
below_good Unchecked g e = absurd (false≢true (ap is_good e))

below_bad : (f g : Finding) → below f g ≡ Bad → (f ≡ Good) × (g ≡ Bad)
below_bad Good g e = (refl, e)
below_bad Bad g e = absurd (false≢true (ap is_bad e))
below_bad Unread g e = absurd (false≢true (ap is_bad e))
below_bad Unchecked g e = absurd (false≢true (ap is_bad e))

differ : (x y : List ℕ) → bytes_eq x y ≡ false → x ≢ y
differ x y unlike same = false≢true (sym unlike ∙ (bytes_eq-Decides x y).1 same)

good_of : (f : Finding) → (f ≡ Good) ⊎ (f ≡ Unchecked) → (f ≡ Unchecked → ⊥) → f ≡ Good
good_of f (inl good) never = good
good_of f (inr none) never = absurd (never none)

module _ (t : Table) (ok : IsTable t) (given : Given) (held : Held) (failed : List Spot)
    (gave : (r i : ℕ) → r ≤ height t → i < row_len t r → IsChecked (finding t held failed r i) → given r i (held r i)) where
  -- a block that was checked was given
  here : (above r i : ℕ) → r + above ≡ height t → i < row_len t r → IsChecked (found t held failed above r i) → given r i (held r i)
  here above r i e low checked =
      let rows : above ≡ height t - r = omega (arith, e) in
      gave r i (omega (arith, e)) low (subst (λ m. IsChecked (found t held failed m r i)) rows checked)

  -- a good place ends a chain
  chained : (above r i : ℕ) → r + above ≡ height t → i < row_len t r → found t held failed above r i ≡ Good
      → EndsChain t given r i (held r i)
  chained zero r i e low good = (
    [],
    record {
      above_it = omega (arith, e);
      link = record {
        gave = here zero r i e low (subst IsChecked (sym good) tt);
        digest = (bytes_eq-Decides _ _).0 (good_test (is_among failed r i) _ good);
      };
    },
  )
  chained (suc above) r i e low good =
      let both = below_good (found t held failed above (suc r) (i / branching t)) (alone t held failed (suc above) r i) good in
      let parent = chained above (suc r) (i / branching t) (omega (arith, e)) (parent_below t ok r i low) both.0 in (
        held (suc r) (i / branching t) ∷ parent.0,
        record {
          above_it = (parent.1.link, parent.1.above_it);
          link = record {
            gave = here (suc above) r i e low (subst IsChecked (sym good) tt);
            digest = (bytes_eq-Decides _ _).0 (good_test (is_among failed r i) _ both.1);
          };
        },
      )

  -- at a bad place, below a chain, a block without the digest was given
  wrong : (above r i : ℕ) → r + above ≡ height t → i < row_len t r → found t held failed above r i ≡ Bad → WrongAt t given r i
  wrong zero r i e low bad = record {
    above = [];
    above_it = omega (arith, e);
    y = held r i;
    gave = here zero r i e low (subst IsChecked (sym bad) tt);
    digest = differ _ _ (bad_test (is_among failed r i) _ bad);
  }
  wrong (suc above) r i e low bad =
      let both = below_bad (found t held failed above (suc r) (i / branching t)) (alone t held failed (suc above) r i) bad in
      let parent = chained above (suc r) (i / branching t) (omega (arith, e)) (parent_below t ok r i low) both.0 in
      record {
        above = held (suc r) (i / branching t) ∷ parent.0;
        above_it = (parent.1.link, parent.1.above_it);
        y = held r i;
        gave = here (suc above) r i e low (subst IsChecked (sym bad) tt);
        digest = differ _ _ (bad_test (is_among failed r i) _ both.1);
      }

  -- where no place is listed, all are good
  all_good : ((r i : ℕ) → r ≤ height t → i < row_len t r → (finding t held failed r i ≡ Good) ⊎ (finding t held failed r i ≡ Unchecked))
      → (above r i : ℕ) → r + above ≡ height t → i < row_len t r → found t held failed above r i ≡ Good
  all_good some zero r i e low =
      let rows : height t - r ≡ zero = omega (arith, e) in
      good_of (found t held failed zero r i)
      (subst (λ m. (found t held failed m r i ≡ Good) ⊎ (found t held failed m r i ≡ Unchecked)) rows (some r i (omega (arith, e)) low))
      (never_unchecked (is_among failed r i) _)
  all_good some (suc above) r i e low =
      let rows : height t - r ≡ suc above = omega (arith, e) in
      let parent : found t held failed above (suc r) (i / branching t) ≡ Good =
      all_good some above (suc r) (i / branching t) (omega (arith, e)) (parent_below t ok r i low) in
      good_of (found t held failed (suc above) r i)
      (subst (λ m. (found t held failed m r i ≡ Good) ⊎ (found t held failed m r i ≡ Unchecked)) rows (some r i (omega (arith, e)) low))
      (λ none. never_unchecked (is_among failed r i) _
      (sym (ap (λ f. below f (alone t held failed (suc above) r i)) parent) ∙ none))

-- what is listed
nil_left : (xs ys : List (Place × Verdict)) → xs ++ ys ≡ [] → xs ≡ []
nil_left [] ys e = refl
nil_left (x ∷ xs) ys e = absurd (cc)

nil_right : (xs ys : List (Place × Verdict)) → xs ++ ys ≡ [] → ys ≡ []
nil_right [] ys e = e
nil_right (x ∷ xs) ys e = absurd (cc)

unlisted : (f : Finding) (place : Place) → entry f place ≡ [] → (f ≡ Good) ⊎ (f ≡ Unchecked)
unlisted Good place e = inl refl
unlisted Bad place e = absurd (cc)
unlisted Unread place e = absurd (cc)
unlisted Unchecked place e = inr refl

module _ (t : Table) (held : Held) (failed : List Spot) where
  none_in_row : (r n : ℕ) → row_entries t held failed r n ≡ [] → (i : ℕ) → i < n
      → (finding t held failed r i ≡ Good) ⊎ (finding t held failed r i ≡ Unchecked)
  none_in_row r zero e i low = absurd (omega (arith, low))
  none_in_row r (suc n) e i low =
      elim (cases_eq i n) [
        | inl same ↦ subst (λ j. (finding t held failed r j ≡ Good) ⊎ (finding t held failed r j ≡ Unchecked)) (sym same)
            (unlisted (finding t held failed r n) (place_of r n) (nil_right (row_entries t held failed r n) _ e))
        | inr ne ↦ none_in_row r n (nil_left (row_entries t held failed r n) _ e) i (omega (arith, low, ne))
      ]

  none_from : (h : ℕ) → entries_from t held failed h ≡ [] → (r i : ℕ) → r ≤ h → i < row_len t r
      → (finding t held failed r i ≡ Good) ⊎ (finding t held failed r i ≡ Unchecked)
  none_from zero e r i high low =
      let here : r ≡ 0 = omega (arith, high) in
      subst (λ q. i < row_len t q → (finding t held failed q i ≡ Good) ⊎ (finding t held failed q i ≡ Unchecked)) (sym here)
      (λ low. none_in_row 0 (row_len t 0) e i low) low
  none_from (suc h) e r i high low =
      elim (cases_eq r (suc h)) [
        | inl same ↦
            subst (λ q. i < row_len t q → (finding t held failed q i ≡ Good) ⊎ (finding t held failed q i ≡ Unchecked)) (sym same)
            (λ low. none_in_row (suc h) (row_len t (suc h))
            (nil_left (row_entries t held failed (suc h) (row_len t (suc h))) _ e) i low) low
        | inr ne ↦ none_from h (nil_right (row_entries t held failed (suc h) (row_len t (suc h))) _ e) r i (omega (arith, high, ne)) low
      ]

  -- a place that is listed, and what is found there
  abbrev IsListedAt : ℕ → Place × Verdict → Type 0
  IsListedAt h fault = (r : ℕ) × (i : ℕ) × (r ≤ h) × (i < row_len t r) × Contains (entry (finding t held failed r i) (place_of r i)) fault

  in_row : (r n : ℕ) (fault : Place × Verdict) → Contains (row_entries t held failed r n) fault
      → (i : ℕ) × (i < n) × Contains (entry (finding t held failed r i) (place_of r i)) fault
  in_row r zero fault is = absurd (omega (arith, is.1))
  in_row r (suc n) fault is =
      elim (Contains-append_cases (row_entries t held failed r n) (entry (finding t held failed r n) (place_of r n)) fault is) [
        | inl before ↦ let at = in_row r n fault before in (at.0, omega (arith, at.1), at.2)
        | inr here ↦ (n, omega arith, here)
      ]

  listed_at : (h : ℕ) (fault : Place × Verdict) → Contains (entries_from t held failed h) fault → IsListedAt h fault
  listed_at zero fault is = let at = in_row 0 (row_len t 0) fault is in (0, at.0, omega arith, at.1, at.2)
  listed_at (suc h) fault is =
      elim (Contains-append_cases (row_entries t held failed (suc h) (row_len t (suc h))) (entries_from t held failed h) fault is) [
        | inl here ↦ let at = in_row (suc h) (row_len t (suc h)) fault here in (suc h, at.0, omega arith, at.1, at.2)
        | inr under ↦ let at = listed_at h fault under in (at.0, at.1, omega (arith, at.2), at.3, at.4)
      ]

-- by the one entry of a place
only_one : (x y : Place × Verdict) → Contains (x ∷ []) y → x ≡ y
only_one x y (zero, low, e) = e
only_one x y (suc k, low, e) = absurd (omega (arith, low))

abbrev is_bad_verdict : Verdict → Bool
is_bad_verdict verdicts.Bad = true
is_bad_verdict verdicts.Unread = false

bad_entry : (f : Finding) (here place : Place) → Contains (entry f here) (place, verdicts.Bad) → (f ≡ Bad) × (place ≡ here)
bad_entry Good here place is = absurd (omega (arith, is.1))
bad_entry Bad here place is = (refl, ap (λ (e : Place × Verdict). e.0) (sym (only_one (here, verdicts.Bad) (place, verdicts.Bad) is)))
bad_entry Unread here place is =
    absurd (false≢true (ap (λ (e : Place × Verdict). is_bad_verdict e.1) (only_one (here, verdicts.Unread) (place, verdicts.Bad) is)))
bad_entry Unchecked here place is = absurd (omega (arith, is.1))

unread_entry : (f : Finding) (here place : Place) → Contains (entry f here) (place, verdicts.Unread) → f ≡ Unread
unread_entry Good here place is = absurd (omega (arith, is.1))
unread_entry Bad here place is =
    absurd (false≢true (sym (ap (λ (e : Place × Verdict). is_bad_verdict e.1) (only_one (here, verdicts.Bad) (place, verdicts.Unread) is))))
unread_entry Unread here place is = refl
unread_entry Unchecked here place is = absurd (omega (arith, is.1))

-- where a read is among those that failed, some did
some_among : (failed : List Spot) (r i : ℕ) → is_among failed r i ≡ true → 0 < length failed
some_among [] r i is = absurd (false≢true is)
some_among (s ∷ failed) r i is = omega arith

unread_test : (failed same : Bool) → judge failed same ≡ Unread → failed ≡ true
unread_test true same e = refl
unread_test false true e = absurd (false≢true (ap is_unread e))
unread_test false false e = absurd (false≢true (ap is_unread e))

below_unread : (f g : Finding) → below f g ≡ Unread → g ≡ Unread
below_unread Good g e = e
below_unread Bad g e = absurd (false≢true (ap is_unread e))
below_unread Unread g e = absurd (false≢true (ap is_unread e))
below_unread Unchecked g e = absurd (false≢true (ap is_unread e))

unread_among : (t : Table) (held : Held) (failed : List Spot) (above r i : ℕ) → found t held failed above r i ≡ Unread
    → is_among failed r i ≡ true
unread_among t held failed zero r i e = unread_test (is_among failed r i) _ e
unread_among t held failed (suc above) r i e =
    unread_test (is_among failed r i) _
    (below_unread (found t held failed above (suc r) (i / branching t)) (alone t held failed (suc above) r i) e)

-- The laws: of a report of what was given.
module _ (t : Table) (ok : IsTable t) (given : Given) (faults : List (Place × Verdict)) (unchecked old new : ℕ)
    (d : IsReportGiven t given faults unchecked old new) where
  at_place : (place : Place) (verdict : Verdict) → Contains faults (place, verdict)
      → IsListedAt t d.blocks d.report.failed (height t) (place, verdict)
  at_place place verdict is =
      listed_at t d.blocks d.report.failed (height t) (place, verdict)
      (subst (λ fs. Contains fs (place, verdict)) d.report.faults_are is)

  pub bad_is_wrong : (place : Place) → Contains faults (place, verdicts.Bad) → IsWrongPlace t given place
  bad_is_wrong place is =
      let at = at_place place verdicts.Bad is in
      let bad = bad_entry (finding t d.blocks d.report.failed at.0 at.1) (place_of at.0 at.1) place at.4 in
      record {
        r = at.0;
        i = at.1;
        is = bad.1;
        row = at.2;
        index = at.3;
        wrong = wrong t ok given d.blocks d.report.failed d.gave (height t - at.0) at.0 at.1 (omega (arith, at.2)) at.3 bad.0;
      }

  pub unread_has_failed : (place : Place) → Contains faults (place, verdicts.Unread) → old < new
  unread_has_failed place is =
      let at = at_place place verdicts.Unread is in
      let unread = unread_entry (finding t d.blocks d.report.failed at.0 at.1) (place_of at.0 at.1) place at.4 in
      let some = some_among d.report.failed at.0 at.1
      (unread_among t d.blocks d.report.failed (height t - at.0) at.0 at.1 unread) in
      omega (arith, some, d.report.count)

  pub verified_is_chained : faults ≡ [] → AllChained t given
  verified_is_chained none n low =
      let some = none_from t d.blocks d.report.failed (height t) (sym d.report.faults_are ∙ none) in
      let first : n < row_len t 0 = omega (arith, low, row_len-first t) in
      let good = all_good t ok given d.blocks d.report.failed d.gave some (height t) 0 n (omega arith) first in
      (d.blocks 0 n, chained t ok given d.blocks d.report.failed d.gave (height t) 0 n (omega arith) first good)

  module _ (image : List (List ℕ)) (fits : Fits t image) where
    pub bad_is_other : (place : Place) → Contains faults (place, verdicts.Bad) → GaveOther t given image
    bad_is_other place is =
        let w = bad_is_wrong place is in
        other_given t image ok fits given w.r w.i w.index w.wrong

    pub verified_is_right : AreSized t given → faults ≡ [] → (n : ℕ) → n < t.data_blocks
        → (block : List ℕ) × given 0 n block × IsRight t given image n block
    verified_is_right sized none n low =
        let c = verified_is_chained none n low in
        (c.0, c.1.1.link.gave, chain_right t image ok fits given sized n c.1.0 c.0 low c.1.1)
