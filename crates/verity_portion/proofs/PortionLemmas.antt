-- What calls leave of a portion.
use Rattle.std.proofs.Common.{ℕ, ◌+◌, ◌≤◌, ◌≡◌, ◌-◌, ◌++◌, zero, suc, List, [], ◌∷◌, length, drop, Contains, sym, ap, ◌∙◌}
use Rattle.std.proofs.Common.{true, subst, inl, inr, ⊎_elim, arith, refl}
use Rattle.std.specs.Prelude.{◌⊎◌, slice_index_or}
use Rattle.std.proofs.Math.Seq.{drop-append_seam}
use Rattle.std.proofs.lemmas.List.{take-append-drop, drop-append-le, drop-drop, append-nil}
use Rattle.std.proofs.lemmas.List.Elements.{Contains-push_cases, Contains-append_cases}
use Rattle.verity_slice.specs.declared.run.Run.{Run}
use Rattle.verity_store.specs.Given.{GoesOn, GaveSince}
use Rattle.verity_store.specs.declared.store.BlockStore as store
use Rattle.verity_store.proofs.GivenLemmas.{goes_on_then, goes_on_same, goes_on_len, goes_on_push}
use Rattle.verity_store.proofs.GivenLemmas.{goes_on_equal, since_on, since_now, since_all}
use Rattle.verity_portion.specs.Portion.{IsShown, AreShown, Facts, facts_of, Portioned, portion_of, IsPortion}

-- what was given since the end of a log is what was added to it
pub since_added : (old more new : List (ℕ × List ℕ)) (n : ℕ) (block : List ℕ) → new ≡ old ++ more → GaveSince new (length old) n block
    → Contains more (n, block)
since_added old more new n block is gave =
    subst (λ rows. Contains rows (n, block)) (drop-append_seam old more)
    (subst (λ rows. GaveSince rows (length old) n block) is gave)

-- what was given since a mark was given before the log went on, or since
pub since_split : (old new : List (ℕ × List ℕ)) (mark n : ℕ) (block : List ℕ) → GoesOn old new → mark ≤ length old
    → GaveSince new mark n block → GaveSince old mark n block ⊎ GaveSince new (length old) n block
since_split old new mark n block on inside gave =
    let more : List (ℕ × List ℕ) = drop (length old) new in
    let is : old ++ more ≡ new = ap (λ front. front ++ more) (sym on) ∙ take-append-drop (length old) new in
    Contains-append_cases (drop mark old) more (n, block)
    (subst (λ rows. Contains rows (n, block)) (drop-append-le mark old more inside)
    (subst (λ rows. GaveSince rows mark n block) (sym is) gave))

-- and since any earlier mark
since_earlier : (given : List (ℕ × List ℕ)) (early mark n : ℕ) (block : List ℕ) → early ≤ mark → GaveSince given mark n block
    → GaveSince given early n block
since_earlier given early mark n block before gave =
    let at : early + (mark - early) ≡ mark = omega (arith, before) in
    since_all (drop early given) (mark - early) n block
    (subst (λ rows. Contains rows (n, block)) (sym (drop-drop (mark - early) early given ∙ ap (λ m. drop m given) at)) gave)

pub shown_one : (runs : List Run) (n : ℕ) → AreShown runs n (n + 1) → IsShown runs n
shown_one runs n are = (are.0, are.1, (are.2, omega (arith, are.3)))

pub one_shown : (runs : List Run) (n : ℕ) → IsShown runs n → AreShown runs n (n + 1)
one_shown runs n is = (is.0, is.1, is.2.0, omega (arith, is.2.1))

-- by the one block that was given
pub only_one : (x y : ℕ × List ℕ) → Contains (x ∷ []) y → x ≡ y
only_one x y (zero, low, e) = e
only_one x y (suc k, low, e) = absurd (omega (arith, low))

nothing_added : (old new : List (ℕ × List ℕ)) (n : ℕ) (block : List ℕ) → new ≡ old → GaveSince new (length old) n block → ⊥
nothing_added old new n block same gave =
    let has = since_added old [] new n block (same ∙ sym (append-nil old)) gave in omega (arith, has.1)

module _ {S : Type 0} (facts : store.Ghosts S) (p : Portioned S) (new : S) (is : IsPortion facts p)
    (tells : facts.tells new ≡ facts.tells p.store) (fixed : facts.fixed new ≡ facts.fixed p.store) where
  abbrev was : Facts
  was = is.0

  same_gave : facts.given new ≡ facts.given p.store → GoesOn was.given (facts.given new)
  same_gave given = subst (λ rows. GoesOn was.given rows) (sym given) is.1.gave

  -- the store below was changed
  pub portion_changed : facts.given new ≡ facts.given p.store → facts.reads new ≡ facts.reads p.store
      → facts.changes new ≡ facts.changes p.store + 1 → IsPortion facts (record p { store = new })
  portion_changed given reads changes = (
    was,
    record {
      past = is.1.past;
      tells = tells ∙ is.1.tells;
      fixed = fixed ∙ is.1.fixed;
      gave = same_gave given;
      reads = omega (arith, is.1.reads, reads);
      changes = omega (arith, is.1.changes, changes);
      shown = λ n block has shows. subst (λ rows. GaveSince rows (length was.given) n block) (sym given) (is.1.shown n block has shows);
      own = λ none. absurd (omega (arith, none, changes, is.1.changes));
      within = λ n block gave. is.1.within n block (subst (λ rows. GaveSince rows (length was.given) n block) given gave);
    },
  )

  -- it was neither changed nor read
  pub portion_kept : facts.given new ≡ facts.given p.store → facts.reads new ≡ facts.reads p.store
      → facts.changes new ≡ facts.changes p.store → facts.content new ≡ facts.content p.store → IsPortion facts (record p { store = new })
  portion_kept given reads changes content = (
    was,
    record {
      past = is.1.past;
      tells = tells ∙ is.1.tells;
      fixed = fixed ∙ is.1.fixed;
      gave = same_gave given;
      reads = omega (arith, is.1.reads, reads);
      changes = omega (arith, is.1.changes, changes);
      shown = λ n block has shows. subst (λ rows. GaveSince rows (length was.given) n block) (sym given) (is.1.shown n block has shows);
      own = λ none n block has shows honest. ap (λ blocks. slice_index_or blocks n []) content
          ∙ is.1.own (sym changes ∙ none) n block has shows (sym tells ∙ honest);
      within = λ n block gave. is.1.within n block (subst (λ rows. GaveSince rows (length was.given) n block) given gave);
    },
  )

  -- it was read: what it gave is shown, and what was noted of blocks that are shown it gave
  pub portion_read : (log : List (ℕ × List ℕ)) (asked : ℕ) → GoesOn (facts.given p.store) (facts.given new)
      → facts.reads p.store ≤ facts.reads new → facts.changes new ≡ facts.changes p.store → facts.content new ≡ facts.content p.store
      → ((n : ℕ) (block : List ℕ) → GaveSince (facts.given new) (length (facts.given p.store)) n block → IsShown p.runs n)
      → ((n : ℕ) (block : List ℕ) → Contains log (n, block) → Contains p.given (n, block) ⊎ (IsShown p.runs n
      → GaveSince (facts.given new) (length (facts.given p.store)) n block
      × (facts.tells p.store ≡ true → slice_index_or (facts.content p.store) n [] ≡ block)))
      → IsPortion facts (record p { store = new; given = log; asked = asked })
  portion_read log asked gave reads changes content within noted =
      let inside : length was.given ≤ length (facts.given p.store) = goes_on_len was.given (facts.given p.store) is.1.gave in (
        was,
        record {
          past = is.1.past;
          tells = tells ∙ is.1.tells;
          fixed = fixed ∙ is.1.fixed;
          gave = goes_on_then was.given (facts.given p.store) (facts.given new) is.1.gave gave;
          reads = omega (arith, is.1.reads, reads);
          changes = omega (arith, is.1.changes, changes);
          shown = λ n block has shows. ⊎_elim
              (λ before. since_on (facts.given p.store) (facts.given new) gave (length was.given) n block (is.1.shown n block before shows))
              (λ (now : _). since_earlier (facts.given new) (length was.given) (length (facts.given p.store)) n block inside (now shows).0)
              (noted n block has);
          own = λ none n block has shows honest. ap (λ blocks. slice_index_or blocks n []) content ∙ ⊎_elim
              (λ before. is.1.own (sym changes ∙ none) n block before shows (sym tells ∙ honest))
              (λ now. (now shows).1 (sym tells ∙ honest))
              (noted n block has);
          within = λ n block given. ⊎_elim
              (λ before. is.1.within n block before)
              (λ now. within n block now)
              (since_split (facts.given p.store) (facts.given new) (length was.given) n block gave inside given);
        },
      )

  -- nothing was given, and nothing noted
  pub portion_failed : (asked : ℕ) → facts.given new ≡ facts.given p.store → facts.reads p.store ≤ facts.reads new
      → facts.changes new ≡ facts.changes p.store → facts.content new ≡ facts.content p.store
      → IsPortion facts (record p { store = new; asked = asked })
  portion_failed asked given reads changes content =
      portion_read p.given asked (goes_on_equal _ _ given) reads changes content
      (λ n block gave. absurd (nothing_added (facts.given p.store) (facts.given new) n block given gave))
      (λ n block has. inl has)

  -- a block was given, and noted
  pub portion_gave : (log : List (ℕ × List ℕ)) (asked n : ℕ) (out : List ℕ) → IsShown p.runs n → log ≡ p.given ++ (n, out) ∷ []
      → facts.given new ≡ facts.given p.store ++ (n, out) ∷ [] → facts.reads p.store ≤ facts.reads new
      → facts.changes new ≡ facts.changes p.store → facts.content new ≡ facts.content p.store
      → (facts.tells p.store ≡ true → slice_index_or (facts.content p.store) n [] ≡ out)
      → IsPortion facts (record p { store = new; given = log; asked = asked })
  portion_gave log asked n out shows noted given reads changes content right =
      portion_read log asked (goes_on_push _ _ _ given) reads changes content
      (λ m block gave. subst (λ (row : ℕ × List ℕ). IsShown p.runs row.0)
      (only_one (n, out) (m, block) (since_added (facts.given p.store) ((n, out) ∷ []) (facts.given new) m block given gave)) shows)
      (λ m block has. ⊎_elim inl (λ (here : (n, out) ≡ (m, block)). inr (λ _. subst
      (λ (row : ℕ × List ℕ). GaveSince (facts.given new) (length (facts.given p.store)) row.0 row.1
      × (facts.tells p.store ≡ true → slice_index_or (facts.content p.store) row.0 [] ≡ row.1)) here (
        subst (λ rows. GaveSince rows (length (facts.given p.store)) n out) (sym given)
            (since_now (facts.given p.store) (length (facts.given p.store)) n out (omega arith)),
        right,
      )))
      (Contains-push_cases p.given (n, out) (m, block) (subst (λ rows. Contains rows (m, block)) noted has)))

-- zeros were noted for a block that isn't shown
pub portion_blank : {S : Type 0} (facts : store.Ghosts S) (p : Portioned S) → IsPortion facts p
    → (log : List (ℕ × List ℕ)) (asked n : ℕ) (out : List ℕ) → (IsShown p.runs n → ⊥) → log ≡ p.given ++ (n, out) ∷ []
    → IsPortion facts (record p { given = log; asked = asked })
portion_blank facts p is log asked n out hidden noted =
    portion_read facts p p.store is refl refl log asked (goes_on_same _) (omega arith) refl refl
    (λ m block gave. absurd (nothing_added (facts.given p.store) (facts.given p.store) m block refl gave))
    (λ m block has. ⊎_elim inl (λ (here : (n, out) ≡ (m, block)). inr (λ shows. absurd (hidden
    (subst (λ (row : ℕ × List ℕ). IsShown p.runs row.0) (sym here) shows))))
    (Contains-push_cases p.given (n, out) (m, block) (subst (λ rows. Contains rows (m, block)) noted has)))

-- one of which nothing was read
pub portion_new : {S : Type 0} (facts : store.Ghosts S) (s : S) (runs : List Run) → IsPortion facts (portion_of facts s runs)
portion_new facts s runs = (
  facts_of facts s,
  record {
    past = refl;
    tells = refl;
    fixed = refl;
    gave = goes_on_same _;
    reads = omega arith;
    changes = omega arith;
    shown = λ n block has. absurd (omega (arith, has.1));
    own = λ none n block has. absurd (omega (arith, has.1));
    within = λ n block gave. absurd (nothing_added (facts.given s) (facts.given s) n block refl gave);
  },
)
