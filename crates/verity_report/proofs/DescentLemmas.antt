-- Steps of a report.
use Rattle.std.proofs.Common.{suc, zero, arith, ℕ, ◌+◌, ◌-◌, ◌/◌, ◌%◌, ◌<◌, ◌≤◌, ◌≡◌, ◌≢◌, Bool, true, false, ◌==◌, List, [], ◌∷◌}
use Rattle.std.proofs.Common.{◌++◌, length, Option, Some, None, inl, inr, refl, sym, ap, ◌∙◌, subst, append_assoc, append-nil}
use Rattle.std.proofs.Common.{set, replicate}
use Rattle.std.specs.Prelude.{◌&&◌, ◌||◌, Result, Ok, Err, OnOk}
use Rattle.std.specs.Str.{bytes_eq}
use Rattle.std.proofs.lemmas.Bool.{cases_lt, cases_eq}
use Rattle.std.proofs.lemmas.Bool.Decides.{Decides-eqb, Decides-and}
use Rattle.std.proofs.lemmas.List.{get_or-set_same, get_or-set_other, length-set, length-replicate, get_or-replicate}
use Rattle.verity_digest.specs.Tree.{slot}
use Rattle.verity_digest.specs.Shape.{blocks_of_levels, level_start}
use Rattle.verity_digest.proofs.Counts.{row_len-zero, blocks_of_levels-none, top_start, last_end, next_start}
use Rattle.verity_chain.specs.Table.{Table, IsTable, hashing_of, branching, height, row_len, tree_len, path_index}
use Rattle.verity_chain.specs.declared.place.Place.{Place}
use Rattle.verity_chain.specs.Chain.{Given}
use Rattle.verity_chain.proofs.ChainLemmas.{Grows}
use Rattle.verity_report.specs.Finding.{Held, Spot, Tells, IsChecked, is_among, judge, below, alone, found, finding}
use Rattle.verity_report.specs.Report.{entries_from, unchecked_from, IsReportOf, IsReportGiven, place_of, entry, unchecked_one, row_entries}
use Rattle.verity_report.specs.Report.{row_unchecked, judged}
use Rattle.verity_report.specs.Descent.{Known, blank, nothing_known, known, seen_in, tally, places, faults_below, AreSeenTo, named_by}
use Rattle.verity_report.specs.Descent.{IsNamed}
use Rattle.verity_report.specs.Descent.{is_good, IsNoted, IsStep, IsRun, IsUnder, IsDownTo, compared, AreSeen, AreUnseen, IsLast, Stands}
use Rattle.verity_report.specs.Descent.{IsSoFar, AreRows, AreHeld}
use Rattle.verity_report.proofs.RowCounts.{counts_or, same_parent, seen_run}
use Rattle.verity_chain.proofs.TableLaws.{path_index-suc}
use Rattle.verity_report.specs.declared.finding.Verdict.{Verdict}
use Rattle.verity_report.specs.declared.finding.Finding.{Finding}
use Rattle.verity_report.specs.declared.finding.Finding.TheVariants.{Good, Bad, Unread, Unchecked}

pub ok_weaker : {T E : Type 0} (r : Result T E) (P Q : Type 0) → (P → Q) → OnOk r P → OnOk r Q
ok_weaker (Ok x) P Q f h = f h
ok_weaker (Err e) P Q f h = tt

pub ok_both : {T E : Type 0} (r : Result T E) (P Q R : Type 0) → (P → Q → R) → OnOk r P → OnOk r Q → OnOk r R
ok_both (Ok x) P Q R f p q = f p q
ok_both (Err e) P Q R f p q = tt

-- tests of places
differs : (a b r i : ℕ) → ((a ≡ r) × (b ≡ i) → ⊥) → ((a == r) && (b == i)) ≡ false
differs a b r i isnt = by_test ((a == r) && (b == i)) refl where
  by_test : (x : Bool) → ((a == r) && (b == i)) ≡ x → ((a == r) && (b == i)) ≡ false
  by_test true e = absurd (isnt ((Decides-and (a == r) (b == i) (Decides-eqb a r) (Decides-eqb b i)).0 e))
  by_test false e = e

or_true : (b : Bool) → (b || true) ≡ true
or_true true = refl
or_true false = refl

among_here : (r i : ℕ) (rest spots : List Spot) → is_among (rest ++ ((r, i) ∷ spots)) r i ≡ true
among_here r i [] spots =
    ap (λ b. b || is_among spots r i) ((Decides-and (r == r) (i == i) (Decides-eqb r r) (Decides-eqb i i)).1 (refl, refl))
among_here r i (s ∷ rest) spots = ap (λ b. ((s.0 == r) && (s.1 == i)) || b) (among_here r i rest spots) ∙ or_true ((s.0 == r) && (s.1 == i))

-- sums over rows
tally_same : (f g : ℕ → ℕ) (h : ℕ) → ((q : ℕ) → q ≤ h → g q ≡ f q) → tally g h ≡ tally f h
tally_same f g zero e = e 0 (omega arith)
tally_same f g (suc h) e =
    let top : g (suc h) ≡ f (suc h) = e (suc h) (omega arith) in
    let rest : tally g h ≡ tally f h = tally_same f g h (λ q l. e q (omega (arith, l))) in
    omega (arith, top, rest)

tally_step : (f g : ℕ → ℕ) (h r x : ℕ) → r ≤ h → ((q : ℕ) → q ≢ r → g q ≡ f q) → g r ≡ f r + x → tally g h ≡ tally f h + x
tally_step f g zero r x l o e = let z : r ≡ 0 = omega (arith, l) in subst (λ k. g k ≡ f k + x) z e
tally_step f g (suc h) r x l o e = elim (cases_lt r (suc h)) [
  | inl under ↦
      let top : g (suc h) ≡ f (suc h) = o (suc h) (λ z. omega (arith, z, under)) in
      let low : r ≤ h = omega (arith, under) in
      let rest : tally g h ≡ tally f h + x = tally_step f g h r x low o e in
      omega (arith, top, rest)
  | inr from ↦
      let same : r ≡ suc h = omega (arith, from, l) in
      let top : g (suc h) ≡ f (suc h) + x = subst (λ k. g k ≡ f k + x) same e in
      let rest : tally g h ≡ tally f h = tally_same f g h (λ q low. o q (λ z. omega (arith, z, same, low))) in
      omega (arith, top, rest)
]

-- how a noted place changes the rows
pub step_set : (r : ℕ) (f : Finding) (place : Place) (block : List ℕ) (old : List Known) (new : Known) → r < length old →
    IsNoted f place block (known old r) new → IsStep r f place block old (set old r new)
step_set r f place block old new below noted =
    let here : known (set old r new) r ≡ new = get_or-set_same old r new nothing_known below in
    record {
      len = length-set old r new;
      noted = subst (λ k. IsNoted f place block (known old r) k) (sym here) noted;
      others = λ q ne. get_or-set_other old r q new nothing_known ne;
    }

module _ (rows rows' : List Known) (r i : ℕ) (at : seen_in rows r ≡ i) (next : seen_in rows' r ≡ suc i)
    (others : (q : ℕ) → q ≢ r → known rows' q ≡ known rows q) where
  seen_grows : (q : ℕ) → seen_in rows q ≤ seen_in rows' q
  seen_grows q = elim (cases_eq q r) [
    | inl e ↦
        let old : seen_in rows q ≡ seen_in rows r = ap (seen_in rows) e in
        let new : seen_in rows' q ≡ seen_in rows' r = ap (seen_in rows') e in
        omega (arith, old, new, at, next)
    | inr ne ↦ let same : seen_in rows' q ≡ seen_in rows q = ap (λ (k : Known). k.seen) (others q ne) in omega (arith, same)
  ]

  not_among : (rest spots : List Spot) → AreUnseen rows' rest → AreSeen rows spots → is_among (rest ++ spots) r i ≡ false
  not_among [] [] u s = refl
  not_among [] (x ∷ spots) u s =
      ap (λ b. b || is_among spots r i) (differs x.0 x.1 r i (λ h.
      let there : seen_in rows x.0 ≡ seen_in rows r = ap (seen_in rows) h.0 in omega (arith, s.0, h.1, there, at)))
      ∙ not_among [] spots tt s.1
  not_among (x ∷ rest) spots u s =
      ap (λ b. b || is_among (rest ++ spots) r i) (differs x.0 x.1 r i (λ h.
      let there : seen_in rows' x.0 ≡ seen_in rows' r = ap (seen_in rows') h.0 in omega (arith, u.0, h.1, there, next)))
      ∙ not_among rest spots u.1 s

  unseen_before : (rest : List Spot) → AreUnseen rows' rest → AreUnseen rows rest
  unseen_before [] u = tt
  unseen_before (x ∷ rest) u = (omega (arith, u.0, seen_grows x.0), unseen_before rest u.1)

  unseen_with : (rest : List Spot) → AreUnseen rows' rest → AreUnseen rows (rest ++ (r, i) ∷ [])
  unseen_with [] u = (omega (arith, at), tt)
  unseen_with (x ∷ rest) u = (omega (arith, u.0, seen_grows x.0), unseen_with rest u.1)

  seen_after : (spots : List Spot) → AreSeen rows spots → AreSeen rows' spots
  seen_after [] s = tt
  seen_after (x ∷ spots) s = (omega (arith, s.0, seen_grows x.0), seen_after spots s.1)

-- one more place was looked at
pub places_step : (t : Table) (r : ℕ) (f : Finding) (place : Place) (block : List ℕ) (old new : List Known) → r ≤ height t →
    IsStep r f place block old new → places t new ≡ places t old + 1
places_step t r f place block old new row step =
    tally_step (seen_in old) (seen_in new) (height t) r 1 row (λ q ne. ap (λ (k : Known). k.seen) (step.others q ne))
    (let more : suc (seen_in old r) ≡ seen_in old r + 1 = omega arith in step.noted.seen ∙ more)

only_good : (f : Finding) → is_good f ≡ true → f ≡ Good
only_good Good e = refl
only_good Bad e = absurd (cc)
only_good Unread e = absurd (cc)
only_good Unchecked e = absurd (cc)

below_unchecked : (f g : Finding) → (f ≡ Good → ⊥) → below f g ≡ Unchecked
below_unchecked Good g isnt = absurd (isnt refl)
below_unchecked Bad g isnt = refl
below_unchecked Unread g isnt = refl
below_unchecked Unchecked g isnt = refl

module _ (t : Table) (held : Held) where
  module _ (all : List Spot) (r i : ℕ) (named : Option (List ℕ)) where
    under_parent : (good : Bool) (block : List ℕ)
        → (good ≡ true → (finding t held all (suc r) (i / branching t) ≡ Good) × (block ≡ held (suc r) (i / branching t)))
        → (good ≡ false → finding t held all (suc r) (i / branching t) ≡ Good → ⊥) → named ≡ named_by t i good block
        → (above : ℕ) → finding t held all (suc r) (i / branching t) ≡ found t held all above (suc r) (i / branching t)
        → found t held all (suc above) r i ≡ judged t named (is_among all r i) (held r i)
    under_parent true block good bad is above same =
        let kept = good refl in
        ap (λ f. below f (alone t held all (suc above) r i)) (sym same ∙ kept.0)
        ∙ ap (λ b. judge (is_among all r i) (bytes_eq ((hashing_of t).digest (held r i))
        (slot (hashing_of t) b (i % branching t)))) (sym kept.1)
        ∙ ap (λ n. judged t n (is_among all r i) (held r i)) (sym is)
    under_parent false block good bad is above same =
        below_unchecked (found t held all above (suc r) (i / branching t)) (alone t held all (suc above) r i)
        (λ e. bad refl (same ∙ e))
        ∙ ap (λ n. judged t n (is_among all r i) (held r i)) (sym is)

    -- what is found at a place, by the digest that is named there
    finding_named : (given : Given) (rows : List Known) (unchecked : ℕ) → Stands t given held all rows unchecked → r ≤ height t
        → (r < height t → seen_in rows (suc r) ≡ suc (i / branching t)) → IsNamed t r i rows named
        → finding t held all r i ≡ judged t named (is_among all r i) (held r i)
    finding_named given rows unchecked s row parent name = elim (cases_lt r (height t)) [
      | inl under ↦
          let up : height t - r ≡ suc (height t - suc r) = omega (arith, under) in
          let last = s.last r (i / branching t) under (parent under) in
          ap (λ m. found t held all m r i) up
          ∙ under_parent (known rows (suc r)).good (known rows (suc r)).block last.good last.bad (name.under under)
          (height t - suc r) refl
      | inr top ↦
          let same : r ≡ height t = omega (arith, top, row) in
          let none : height t - r ≡ 0 = omega (arith, same) in
          ap (λ m. found t held all m r i) none ∙ ap (λ n. judged t n (is_among all r i) (held r i)) (sym (name.top same))
    ]

  -- what was listed and counted of all rows
  listed_all : (all : List Spot) (rows : List Known) (h : ℕ)
      → ((r : ℕ) → r ≤ h → (known rows r).faults ≡ row_entries t held all r (row_len t r))
      → faults_below rows (suc h) ≡ entries_from t held all h
  listed_all all rows zero each = append-nil (known rows 0).faults ∙ each 0 (omega arith)
  listed_all all rows (suc h) each =
      ap (λ fs. fs ++ faults_below rows (suc h)) (each (suc h) (omega arith))
      ∙ ap (λ fs. row_entries t held all (suc h) (row_len t (suc h)) ++ fs)
      (listed_all all rows h (λ r low. each r (omega (arith, low))))

  counted_all : (all : List Spot) (h : ℕ) → tally (λ r. row_unchecked t held all r (row_len t r)) h ≡ unchecked_from t held all h
  counted_all all zero = refl
  counted_all all (suc h) = ap (λ u. row_unchecked t held all (suc h) (row_len t (suc h)) + u) (counted_all all h)

  whole : (given : Given) (failed : List Spot) (rows : List Known) (unchecked base now : ℕ) (faults : List (Place × Verdict))
      → length failed + base ≤ now → Stands t given held failed rows unchecked
      → AreSeenTo t t.data_blocks rows → faults ≡ faults_below rows (suc (height t)) → IsReportOf t held faults unchecked base now
  whole given failed rows unchecked base now faults count s seen is = record {
    failed = failed;
    count = count;
    faults_are = is ∙ listed_all failed rows (height t)
        (λ r low. s.faults r low ∙ ap (λ n. row_entries t held failed r n) (seen r low));
    unchecked_are = s.unchecked
        ∙ tally_same (λ r. row_unchecked t held failed r (row_len t r)) (λ r. row_unchecked t held failed r (seen_in rows r))
        (height t) (λ r low. ap (λ n. row_unchecked t held failed r n) (seen r low))
        ∙ counted_all failed (height t);
  }

-- blocks, with one more at a place
abbrev pick : Bool → List ℕ → List ℕ → List ℕ
pick true x y = x
pick false x y = y

abbrev with_block : Held → ℕ → ℕ → List ℕ → Held
with_block blocks r i block q j = pick ((q == r) && (j == i)) block (blocks q j)

with_here : (blocks : Held) (r i : ℕ) (block : List ℕ) → with_block blocks r i block r i ≡ block
with_here blocks r i block =
    ap (λ b. pick b block (blocks r i)) ((Decides-and (r == r) (i == i) (Decides-eqb r r) (Decides-eqb i i)).1 (refl, refl))

with_other : (blocks : Held) (r i : ℕ) (block : List ℕ) (q j : ℕ) → ((q ≡ r) × (j ≡ i) → ⊥) → with_block blocks r i block q j ≡ blocks q j
with_other blocks r i block q j isnt = ap (λ b. pick b block (blocks q j)) (differs q j r i isnt)

-- what is found of a block is found of what is held, if a block that was checked is held
checked_judge : (b : Bool) → IsChecked (judge false b)
checked_judge true = tt
checked_judge false = tt

judged_held : (t : Table) (named : Option (List ℕ)) (failed : Bool) (block held : List ℕ)
    → (IsChecked (judged t named failed block) → held ≡ block) → judged t named failed held ≡ judged t named failed block
judged_held t None failed block held same = refl
judged_held t (Some digest) true block held same = refl
judged_held t (Some digest) false block held same =
    ap (λ y. judged t (Some digest) false y) (same (checked_judge (bytes_eq ((hashing_of t).digest block) digest)))

module _ (t : Table) (given more : Given) (grows : Grows given more) where
  module _ (r i : ℕ) (f : Finding) (kept block : List ℕ) (rows rows' : List Known) (step : IsStep r f (place_of r i) kept rows rows')
      (at : seen_in rows r ≡ i) (row : r ≤ height t) (is_kept : 0 < r → f ≡ Good → kept ≡ block)
      (gave : IsChecked f → more r i block) where
    next_seen : seen_in rows' r ≡ suc i
    next_seen = step.noted.seen ∙ ap (λ n. suc n) at

    -- what is known is still right
    stands_more : (held : Held) (all : List Spot) (unchecked : ℕ) → Stands t given held all rows unchecked → finding t held all r i ≡ f
        → (IsChecked f → held r i ≡ block) → Stands t more held all rows' (unchecked + unchecked_one f)
    stands_more held all unchecked s is is_held = record {
      faults = λ q low. elim (cases_eq q r) [
        | inl e ↦ subst (λ k. (known rows' k).faults ≡ row_entries t held all k (seen_in rows' k)) (sym e)
            (step.noted.faults
            ∙ ap (λ fs. fs ++ entry f (place_of r i)) (s.faults r row ∙ ap (λ n. row_entries t held all r n) at)
            ∙ ap (λ g. row_entries t held all r i ++ entry g (place_of r i)) (sym is)
            ∙ ap (λ n. row_entries t held all r n) (sym next_seen))
        | inr ne ↦ ap (λ (k : Known). k.faults) (step.others q ne) ∙ s.faults q low
            ∙ ap (λ (k : Known). row_entries t held all q k.seen) (sym (step.others q ne))
      ];
      unchecked =
          let up : tally (λ q. row_unchecked t held all q (seen_in rows' q)) (height t)
          ≡ tally (λ q. row_unchecked t held all q (seen_in rows q)) (height t) + unchecked_one f =
          tally_step (λ q. row_unchecked t held all q (seen_in rows q)) (λ q. row_unchecked t held all q (seen_in rows' q))
          (height t) r (unchecked_one f) row (λ q ne. ap (λ (k : Known). row_unchecked t held all q k.seen) (step.others q ne))
          (ap (λ n. row_unchecked t held all r n) next_seen ∙ ap (λ g. row_unchecked t held all r i + unchecked_one g) is
          ∙ ap (λ n. row_unchecked t held all r n + unchecked_one f) (sym at)) in
          ap (λ u. u + unchecked_one f) s.unchecked ∙ sym up;
      last = λ l j low e. elim (cases_eq (suc l) r) [
        | inl same ↦
            let there : seen_in rows' (suc l) ≡ seen_in rows' r = ap (seen_in rows') same in
            let index : j ≡ i = omega (arith, e, there, next_seen) in
            let some : 0 < r = omega (arith, same) in
            let here : IsLast t held all r i (known rows' r) = record {
              good = λ g.
                  let is_f : f ≡ Good = only_good f (sym step.noted.good ∙ g) in
                  (is ∙ is_f, step.noted.kept ∙ is_kept some is_f ∙ sym (is_held (subst IsChecked (sym is_f) tt)));
              bad = λ b g.
                  let is_f : f ≡ Good = sym is ∙ g in
                  let one : is_good f ≡ true = ap is_good is_f in
                  let two : is_good f ≡ false = sym step.noted.good ∙ b in
                  absurd (cc);
            } in
            subst (λ m. IsLast t held all m j (known rows' m)) (sym same)
            (subst (λ m. IsLast t held all r m (known rows' r)) (sym index) here)
        | inr ne ↦
            let same : seen_in rows' (suc l) ≡ seen_in rows (suc l) = ap (λ (k : Known). k.seen) (step.others (suc l) ne) in
            subst (λ k. IsLast t held all (suc l) j k) (sym (step.others (suc l) ne)) (s.last l j low (sym same ∙ e))
      ];
      gave = λ q j low lt checked. elim (cases_eq q r) [
        | inl e ↦
            let there : seen_in rows' q ≡ seen_in rows' r = ap (seen_in rows') e in
            let before : seen_in rows q ≡ seen_in rows r = ap (seen_in rows) e in
            elim (cases_eq j i) [
              | inl same ↦
                  let is_checked : IsChecked f =
                  subst IsChecked (ap (λ m. finding t held all m j) e ∙ ap (λ m. finding t held all r m) same ∙ is) checked in
                  subst (λ m. more m j (held m j)) (sym e) (subst (λ m. more r m (held r m)) (sym same)
                  (subst (λ y. more r i y) (sym (is_held is_checked)) (gave is_checked)))
              | inr ne ↦ grows q j (held q j) (s.gave q j low (omega (arith, lt, ne, there, before, next_seen, at)) checked)
            ]
        | inr ne ↦
            let same : seen_in rows' q ≡ seen_in rows q = ap (λ (k : Known). k.seen) (step.others q ne) in
            grows q j (held q j) (s.gave q j low (omega (arith, lt, same)) checked)
      ];
    }

    -- blocks that are held with this one were held without it
    held_before : (blocks held : Held) → AreHeld more rows' (with_block blocks r i block) held → AreHeld given rows blocks held
    held_before blocks held are q j lt old =
        let other : with_block blocks r i block q j ≡ blocks q j = with_other blocks r i block q j (λ h.
        let there : seen_in rows q ≡ seen_in rows r = ap (seen_in rows) h.0 in omega (arith, lt, h.1, there, at)) in
        are q j (omega (arith, lt, seen_grows rows rows' r i at next_seen step.others q))
        (subst (λ y. more q j y) (sym other) (grows q j (blocks q j) old)) ∙ other

    held_here : (blocks held : Held) → AreHeld more rows' (with_block blocks r i block) held → IsChecked f → held r i ≡ block
    held_here blocks held are checked =
        let here : with_block blocks r i block r i ≡ block = with_here blocks r i block in
        are r i (omega (arith, next_seen)) (subst (λ y. more r i y) (sym here) (gave checked)) ∙ here

    -- one more place was looked at
    pub so_far_more : (unchecked base now now' : ℕ) (named : Option (List ℕ)) (failed : Bool)
        → IsSoFar t given rows unchecked base now
        → (r < height t → seen_in rows (suc r) ≡ suc (i / branching t)) → IsNamed t r i rows named
        → f ≡ judged t named failed block → now ≤ now' → (failed ≡ true → now < now')
        → IsSoFar t more rows' (unchecked + unchecked_one f) base now'
    so_far_more unchecked base now now' named failed d parent name outcome later rises = by_failure failed outcome rises where
      after : (held : Held) (all : List Spot) (b : Bool) → Stands t given held all rows unchecked → is_among all r i ≡ b →
          f ≡ judged t named b block → (IsChecked f → held r i ≡ block) → Stands t more held all rows' (unchecked + unchecked_one f)
      after held all b s among outcome' is_held =
          stands_more held all unchecked s
          (finding_named t held all r i named given rows unchecked s row parent name
          ∙ ap (λ b. judged t named b (held r i)) among
          ∙ judged_held t named b block (held r i) (λ checked. is_held (subst IsChecked (sym outcome') checked))
          ∙ sym outcome') is_held

      by_failure : (b : Bool) → f ≡ judged t named b block → (b ≡ true → now < now') →
          IsSoFar t more rows' (unchecked + unchecked_one f) base now'
      by_failure false outcome' rises' = record {
        failed = d.failed;
        blocks = with_block d.blocks r i block;
        count = omega (arith, d.count, later);
        seen = seen_after rows rows' r i at next_seen step.others d.failed d.seen;
        all = λ rest held u are.
            after held (rest ++ d.failed) false
            (d.all rest held (unseen_before rows rows' r i at next_seen step.others rest u) (held_before d.blocks held are))
            (not_among rows rows' r i at next_seen step.others rest d.failed u d.seen) outcome' (held_here d.blocks held are);
      }
      by_failure true outcome' rises' = record {
        failed = (r, i) ∷ d.failed;
        blocks = with_block d.blocks r i block;
        count = omega (arith, d.count, rises' refl);
        seen = (omega (arith, next_seen), seen_after rows rows' r i at next_seen step.others d.failed d.seen);
        all = λ rest held u are.
            let turn : (rest ++ ((r, i) ∷ [])) ++ d.failed ≡ rest ++ ((r, i) ∷ d.failed) = append_assoc rest ((r, i) ∷ []) d.failed in
            let s = subst (λ all. Stands t given held all rows unchecked) turn
            (d.all (rest ++ (r, i) ∷ []) held (unseen_with rows rows' r i at next_seen step.others rest u)
            (held_before d.blocks held are)) in
            after held (rest ++ ((r, i) ∷ d.failed)) true s (among_here r i rest d.failed) outcome' (held_here d.blocks held are);
      }

  -- a store may have given more, and failed more often
  pub so_far_later : (rows : List Known) (unchecked base now now' : ℕ) → now ≤ now' → IsSoFar t given rows unchecked base now →
      IsSoFar t more rows unchecked base now'
  so_far_later rows unchecked base now now' later d = record {
    failed = d.failed;
    blocks = d.blocks;
    count = omega (arith, d.count, later);
    seen = d.seen;
    all = λ rest held u are.
        let s = d.all rest held u (λ r i lt old. are r i lt (grows r i (d.blocks r i) old)) in
        record {
          faults = s.faults;
          unchecked = s.unchecked;
          last = s.last;
          gave = λ r i low lt checked. grows r i (held r i) (s.gave r i low lt checked);
        };
  }

module _ (t : Table) (given : Given) where
  -- nothing was looked at
  pub so_far_none : (rows : List Known) (base : ℕ) → ((r : ℕ) → r ≤ height t → (seen_in rows r ≡ 0) × ((known rows r).faults ≡ []))
      → IsSoFar t given rows 0 base base
  so_far_none rows base none = record {
    failed = [];
    blocks = λ r i. [];
    count = omega arith;
    seen = tt;
    all = λ rest held u are. record {
      faults = λ r low. (none r low).1 ∙ sym (ap (λ n. row_entries t held (rest ++ []) r n) (none r low).0);
      unchecked =
          sym (tally_same (λ r. 0) (λ r. row_unchecked t held (rest ++ []) r (seen_in rows r)) (height t)
          (λ r low. ap (λ n. row_unchecked t held (rest ++ []) r n) (none r low).0) ∙ zeros (height t));
      last = λ l i low e. absurd (omega (arith, e, (none (suc l) (omega (arith, low))).0));
      gave = λ r i low lt checked. absurd (omega (arith, lt, (none r low).0));
    };
  } where
    zeros : (h : ℕ) → tally (λ r. 0) h ≡ 0
    zeros zero = refl
    zeros (suc h) = let z = zeros h in omega (arith, z)

  module _ (rows : List Known) (unchecked base now : ℕ) (faults : List (Place × Verdict)) (d : IsSoFar t given rows unchecked base now)
      (seen : AreSeenTo t t.data_blocks rows) (is : faults ≡ faults_below rows (suc (height t))) where
    -- every place was looked at
    pub report_given : IsReportGiven t given faults unchecked base now
    unfolding whole
    report_given =
        let s = d.all [] d.blocks tt (λ r i lt gave. refl) in
        record {
          blocks = d.blocks;
          report = whole t d.blocks given d.failed rows unchecked base now faults d.count s seen is;
          gave = λ r i low lt checked. s.gave r i low (omega (arith, lt, seen r low)) checked;
        }

    -- .. and what was given is what is held
    pub report_told : (held : Held) → Tells given held → IsReportOf t held faults unchecked base now
    report_told held tells =
        whole t held given d.failed rows unchecked base now faults d.count
        (d.all [] held tt (λ r i lt gave. sym (tells r i (d.blocks r i) gave))) seen is

-- how many places there are
above : Table → ℕ → ℕ
above t zero = tree_len t
above t (suc l) = level_start (branching t) t.data_blocks l

above_top : (t : Table) (r : ℕ) → r ≡ height t → above t r ≡ 0
unfolding above
above_top t zero top = ap (λ m. blocks_of_levels (branching t) t.data_blocks 0 m) (sym top)
    ∙ blocks_of_levels-none (branching t) t.data_blocks 0
above_top t (suc l) top = top_start (branching t) t.data_blocks l top

above_more : (t : Table) (l : ℕ) → l < height t → above t l ≡ above t (suc l) + row_len t (suc l)
unfolding above
above_more t zero under = sym (last_end (branching t) t.data_blocks under)
above_more t (suc l) under = sym (next_start (branching t) t.data_blocks l under)

all_above : (t : Table) (r : ℕ) → r ≤ height t → tally (row_len t) r + above t r ≡ row_len t 0 + tree_len t
unfolding above
all_above t zero low = refl
all_above t (suc r) low =
    let before : tally (row_len t) r + above t r ≡ row_len t 0 + tree_len t = all_above t r (omega (arith, low)) in
    let more : above t r ≡ above t (suc r) + row_len t (suc r) = above_more t r (omega (arith, low)) in
    omega (arith, before, more)

pub places_none : (t : Table) (rows : List Known) → ((r : ℕ) → r ≤ height t → seen_in rows r ≡ 0) → places t rows ≡ 0
places_none t rows none = tally_same (λ r. 0) (seen_in rows) (height t) none ∙ zeros (height t) where
  zeros : (h : ℕ) → tally (λ r. 0) h ≡ 0
  zeros zero = refl
  zeros (suc h) = let z = zeros h in omega (arith, z)

pub places_all : (t : Table) (rows : List Known) → AreSeenTo t t.data_blocks rows → places t rows ≡ row_len t 0 + tree_len t
places_all t rows seen =
    let same : places t rows ≡ tally (row_len t) (height t) = tally_same (row_len t) (seen_in rows) (height t) seen in
    let none : above t (height t) ≡ 0 = above_top t (height t) refl in
    let whole = all_above t (height t) (omega arith) in
    omega (arith, same, none, whole)

-- runs of data blocks
pub run_none : (rows : List Known) → IsRun 0 rows rows
run_none rows = record { len = refl; first = omega arith; others = λ q ne. refl }

pub run_more : (count : ℕ) (f : Finding) (place : Place) (block : List ℕ) (old mid new : List Known) → IsRun count old mid →
    IsStep 0 f place block mid new → IsRun (count + 1) old new
run_more count f place block old mid new run step = record {
  len = step.len ∙ run.len;
  first = omega (arith, step.noted.seen, run.first);
  others = λ q ne. step.others q ne ∙ run.others q ne;
}

pub run_places : (t : Table) (count : ℕ) (old new : List Known) → IsRun count old new → places t new ≡ places t old + count
run_places t count old new run =
    tally_step (seen_in old) (seen_in new) (height t) 0 count (omega arith)
    (λ q ne. ap (λ (k : Known). k.seen) (run.others q ne)) run.first

pub run_rows : (t : Table) (count : ℕ) (old new : List Known) → IsRun count old new → AreRows t old → AreRows t new
run_rows t count old new run rows = record {
  len = run.len ∙ rows.len;
  whole = λ l low. ap (λ (k : Known). length k.block) (run.others (suc l) (λ e. omega (arith, e))) ∙ rows.whole l low;
}

-- where a run has come to
pub run_next : (t : Table) (n most count : ℕ) (old new : List Known) → IsUnder t n most old → IsRun count old new
    → seen_in new 0 ≡ n + count
run_next t n most count old new under run = omega (arith, run.first, under.next)

pub run_above : (count l : ℕ) (old new : List Known) → IsRun count old new → known new (suc l) ≡ known old (suc l)
run_above count l old new run = run.others (suc l) (λ e. omega (arith, e))

-- one more data block was looked at
pub data_more : (t : Table) (given : Given) (n most count : ℕ) (f : Finding) (kept block : List ℕ) (first rows rows' : List Known)
    (unchecked base now now' : ℕ) (named : Option (List ℕ)) (failed : Bool)
    → IsUnder t n most first → IsRun count first rows → count < most → IsStep 0 f (place_of 0 (n + count)) kept rows rows'
    → IsNamed t 0 (n + count) rows named → f ≡ judged t named failed block → (IsChecked f → given 0 (n + count) block)
    → now ≤ now' → (failed ≡ true → now < now')
    → IsSoFar t given rows unchecked base now → IsSoFar t given rows' (unchecked + unchecked_one f) base now'
data_more t given n most count f kept block first rows rows' unchecked base now now' named failed under run few step name outcome gave
    later rises d =
    so_far_more t given given (λ r i y old. old) 0 (n + count) f kept block rows rows' step (run_next t n most count first rows under run)
    (omega arith) (λ some. absurd (omega (arith, some))) gave unchecked base now now' named failed d
    (λ some. ap (λ (k : Known). k.seen) (run_above count 0 first rows run) ∙ under.parent some count few) name outcome later rises

-- what is found by a digest is what is judged of its block
pub compared_judged : (t : Table) (named : Option (List ℕ)) (block : List ℕ) →
    compared named ((hashing_of t).digest block) ≡ judged t named false block
compared_judged t None block = refl
compared_judged t (Some digest) block = refl

pub compared_checked : (digest made : List ℕ) → unchecked_one (compared (Some digest) made) ≡ 0
compared_checked digest made = by_test (bytes_eq made digest) where
  by_test : (b : Bool) → unchecked_one (judge false b) ≡ 0
  by_test true = refl
  by_test false = refl

pub unread_judged : (t : Table) (digest block : List ℕ) → Unread ≡ judged t (Some digest) true block
unread_judged t digest block = refl

-- the digest that is named for a data block, by whether its parent is good
pub name_bad : (t : Table) (i : ℕ) (rows : List Known) → 0 < height t → (known rows 1).good ≡ false → IsNamed t 0 i rows None
name_bad t i rows some bad = record {
  top = λ e. absurd (omega (arith, e, some));
  under = λ _. subst (λ b. None ≡ named_by t i b (known rows 1).block) (sym bad) refl;
}

pub name_good : (t : Table) (i : ℕ) (rows : List Known) → (0 < height t → (known rows 1).good ≡ true)
    → (digest : List ℕ) × IsNamed t 0 i rows (Some digest)
name_good t i rows good = elim (cases_lt 0 (height t)) [
  | inl some ↦ (
    slot (hashing_of t) (known rows 1).block (i % branching t),
    record {
      top = λ e. absurd (omega (arith, e, some));
      under = λ _. subst (λ b. Some (slot (hashing_of t) (known rows 1).block (i % branching t))
          ≡ named_by t i b (known rows 1).block) (sym (good some)) refl;
    },
  )
  | inr none ↦ (t.root, record { top = λ e. refl; under = λ some. absurd (omega (arith, some, none)) })
]

-- .. and there is no other
pub name_only : (t : Table) (i : ℕ) (rows : List Known) (a b : Option (List ℕ)) → IsNamed t 0 i rows a → IsNamed t 0 i rows b → a ≡ b
name_only t i rows a b p q = elim (cases_lt 0 (height t)) [
  | inl some ↦ p.under some ∙ sym (q.under some)
  | inr none ↦ let top : 0 ≡ height t = omega (arith, none) in p.top top ∙ sym (q.top top)
]

-- a level's block was looked at
pub rows_step : (t : Table) (l : ℕ) (f : Finding) (place : Place) (block : List ℕ) (old new : List Known) →
    IsStep (suc l) f place block old new → length block ≡ t.hash_block_size → AreRows t old → AreRows t new
rows_step t l f place block old new step long rows = record {
  len = step.len ∙ rows.len;
  whole = λ q low. elim (cases_eq (suc q) (suc l)) [
    | inl e ↦ ap (λ m. length (known new m).block) e ∙ ap length step.noted.kept ∙ long
    | inr ne ↦ ap (λ (k : Known). length k.block) (step.others (suc q) ne) ∙ rows.whole q low
  ];
}

-- the way down
pub down_start : (t : Table) (n : ℕ) (rows : List Known) → AreSeenTo t n rows → IsDownTo t n (height t) rows
down_start t n rows seen = record { on = λ l from low. absurd (omega (arith, from, low)); before = seen }

pub down_visited : (t : Table) (n l : ℕ) (old new : List Known) → IsDownTo t n (suc l) old
    → seen_in new (suc l) ≡ suc (path_index t n (suc l))
    → ((r : ℕ) → (r ≡ suc l → ⊥) → seen_in new r ≡ seen_in old r) → IsDownTo t n l new
down_visited t n l old new down here others = record {
  on = λ q from low. elim (cases_eq q l) [
    | inl e ↦ subst (λ m. seen_in new (suc m) ≡ suc (path_index t n (suc m))) (sym e) here
    | inr ne ↦ others (suc q) (λ z. ne (omega (arith, z))) ∙ down.on q (let more : suc l ≤ q = omega (arith, from, ne) in more) low
  ];
  before = λ r low. others r (λ z. omega (arith, z, low)) ∙ down.before r (omega (arith, low));
}

pub down_passed : (t : Table) → IsTable t → (n l : ℕ) (rows : List Known) → l < height t → IsDownTo t n (suc l) rows →
    (seen_in rows (suc l) ≡ path_index t n (suc l) → ⊥) → IsDownTo t n l rows
down_passed t ok n l rows level down isnt = record {
  on = λ q from low. elim (cases_eq q l) [
    | inl e ↦ subst (λ m. seen_in rows (suc m) ≡ suc (path_index t n (suc m))) (sym e)
        (down.before (suc l) (omega arith) ∙ counts_or t ok n l (λ z. isnt (down.before (suc l) (omega arith) ∙ z)))
    | inr ne ↦ down.on q (let more : suc l ≤ q = omega (arith, from, ne) in more) low
  ];
  before = λ r low. down.before r (omega (arith, low));
}

-- what was listed of one row more
pub below_more : (rows : List Known) (row all : ℕ) (faults more new : List (Place × Verdict)) → more ≡ (known rows row).faults
    → new ≡ faults ++ more →
    faults ++ faults_below rows (suc row) ≡ faults_below rows all → new ++ faults_below rows row ≡ faults_below rows all
below_more rows row all faults more new is at before =
    ap (λ fs. fs ++ faults_below rows row) (at ∙ ap (λ fs. faults ++ fs) is)
    ∙ append_assoc faults (known rows row).faults (faults_below rows row) ∙ before

-- at the end of the way down
pub down_under : (t : Table) → IsTable t → (n count : ℕ) (rows : List Known) → IsDownTo t n 0 rows → count ≤ branching t - n % branching t →
    IsUnder t n count rows
down_under t ok n count rows down few = record {
  next = down.before 0 (omega arith) ∙ row_len-zero (branching t) n;
  parent = λ some j lt.
      let near : j < branching t - n % branching t = omega (arith, lt, few) in
      down.on 0 (omega arith) some ∙ ap (λ i. suc i) (path_index-suc t n 0 ∙ sym (same_parent t ok n j near));
}

-- .. and of a run
pub run_seen : (t : Table) → IsTable t → (n count : ℕ) (old new : List Known) → IsDownTo t n 0 old → 0 < count →
    count ≤ branching t - n % branching t → IsRun count old new → AreSeenTo t (n + count) new
run_seen t ok n zero old new down some few run = absurd (omega (arith, some))
run_seen t ok n (suc c) old new down some few run =
    let first : seen_in old 0 ≡ n = down.before 0 (omega arith) ∙ row_len-zero (branching t) n in
    seen_run t ok n c new (omega (arith, few)) (omega (arith, run.first, first))
    (λ l low. ap (λ (k : Known). k.seen) (run_above (suc c) l old new run) ∙ down.on l (omega arith) low)

pub under_fewer : (t : Table) (n most few : ℕ) (rows : List Known) → few ≤ most → IsUnder t n most rows → IsUnder t n few rows
under_fewer t n most few rows l under = record { next = under.next; parent = λ some j lt. under.parent some j (omega (arith, lt, l)) }

-- rows of which nothing was looked at
pub blank_rows : (t : Table) (rows : List Known) → rows ≡ blank 0 ∷ replicate (height t) (blank t.hash_block_size) → AreRows t rows
blank_rows t rows e = record {
  len = ap length e ∙ ap (λ n. suc n) (length-replicate (height t) (blank t.hash_block_size));
  whole = λ l low. ap (λ xs. length (known xs (suc l)).block) e
      ∙ ap (λ (k : Known). length k.block) (get_or-replicate (height t) l (blank t.hash_block_size) nothing_known low)
      ∙ length-replicate t.hash_block_size 0;
}

blank_at : (t : Table) (r : ℕ) → r ≤ height t
    → ((known (blank 0 ∷ replicate (height t) (blank t.hash_block_size)) r).seen ≡ 0)
    × ((known (blank 0 ∷ replicate (height t) (blank t.hash_block_size)) r).faults ≡ [])
blank_at t zero low = (refl, refl)
blank_at t (suc l) low =
    let at = get_or-replicate (height t) l (blank t.hash_block_size) nothing_known (omega (arith, low)) in
    (ap (λ (k : Known). k.seen) at, ap (λ (k : Known). k.faults) at)

pub blank_seen : (t : Table) (rows : List Known) → rows ≡ blank 0 ∷ replicate (height t) (blank t.hash_block_size)
    → (r : ℕ) → r ≤ height t → seen_in rows r ≡ 0
blank_seen t rows e r low = ap (λ xs. seen_in xs r) e ∙ (blank_at t r low).0

pub blank_faults : (t : Table) (rows : List Known) → rows ≡ blank 0 ∷ replicate (height t) (blank t.hash_block_size)
    → (r : ℕ) → r ≤ height t → (known rows r).faults ≡ []
blank_faults t rows e r low = ap (λ xs. (known xs r).faults) e ∙ (blank_at t r low).1
