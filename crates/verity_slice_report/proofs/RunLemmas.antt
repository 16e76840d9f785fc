-- Where the hash blocks of a slice stand.
use Rattle.std.proofs.Common.{ℕ, zero, suc, ◌+◌, ◌-◌, ◌<◌, ◌≤◌, ◌≡◌, ◌++◌, List, [], ◌∷◌, Contains, Bool, true, false, refl, sym, ap, ◌∙◌}
use Rattle.std.proofs.Common.{subst, inl, inr, arith}
use Rattle.std.specs.Prelude.{◌⊎◌, nat_lt, if◌then◌else◌}
use Rattle.std.proofs.lemmas.Bool.{false≢true, cases_eq, lt-ltb, ltb-true}
use Rattle.std.proofs.lemmas.List.Elements.{Contains-push_cases, Contains-push, Contains-append_left}
use Rattle.verity_slice.specs.Slices.{IsIn}
use Rattle.verity_slice.specs.declared.run.Run.{Run}
use Rattle.verity_portion.specs.Portion.{IsShown}
use Rattle.verity_digest.specs.Shape.{level_start}
use Rattle.verity_chain.specs.Table.{Table, IsTable, branching, height, hash_place, path_index}
use Rattle.verity_slice_report.specs.Sliced.{IsOfSlice, is_of_slice}
use Rattle.verity_slice_report.specs.Runs.{level_run, level_runs, runs_above}
use Rattle.verity_slice_report.proofs.PlaceLemmas.{path_mono, between}

-- the one run of the data blocks
pub in_one : (run : Run) (n : ℕ) → IsShown (run ∷ []) n → IsIn run n
in_one run n (r, (zero, low, e), is) = subst (λ (x : Run). IsIn x n) (sym e) is
in_one run n (r, (suc k, low, e), is) = absurd (omega (arith, low))

pub one_in : (run : Run) (n : ℕ) → IsIn run n → IsShown (run ∷ []) n
one_in run n is = (run, (zero, omega arith, refl), is)

-- where a block of a level stands
place_is : (t : Table) (l i : ℕ) → hash_place t l i ≡ t.hash_start_block + (level_start (branching t) t.data_blocks l + i)
place_is t l i = refl

module _ (t : Table) (ok : IsTable t) (run : Run) where
  -- the block of the slice is in its level's run
  in_level : (l i : ℕ) → IsOfSlice t run (suc l) i → IsIn (level_run t run l) (hash_place t l i)
  in_level l i is = (
    omega (arith, path_mono t ok run.first is.0 (suc l) is.1.0, is.2, place_is t l i, place_is t l (path_index t run.first (suc l))),
    omega (
      arith,
      path_mono t ok is.0 (run.end - 1) (suc l) (omega (arith, is.1.1)),
      is.2,
      place_is t l i,
      place_is t l (path_index t (run.end - 1) (suc l)),
    ),
  )

  shown_level : (m l i : ℕ) → l < m → IsOfSlice t run (suc l) i → IsShown (level_runs t run m) (hash_place t l i)
  shown_level zero l i low is = absurd (omega (arith, low))
  shown_level (suc m) l i low is =
      elim (cases_eq l m) [
        | inl same ↦ (
          level_run t run m,
          Contains-push (level_runs t run m) (level_run t run m),
          subst (λ q. IsIn (level_run t run q) (hash_place t l i)) same (in_level l i is),
        )
        | inr ne ↦
            let at = shown_level m l i (omega (arith, low, ne)) is in
            (at.0, Contains-append_left (level_runs t run m) (level_run t run m ∷ []) at.0 at.1, at.2)
      ]

  -- and what is in a level's run is a block of the slice
  abbrev IsAbove : ℕ → ℕ → Type 0
  IsAbove m n = (l : ℕ) × (i : ℕ) × (l < m) × IsOfSlice t run (suc l) i × (hash_place t l i ≡ n)

  of_level : run.first < run.end → (l n : ℕ) → IsIn (level_run t run l) n
      → (i : ℕ) × IsOfSlice t run (suc l) i × (hash_place t l i ≡ n)
  of_level some l n is =
      let start : ℕ = t.hash_start_block + level_start (branching t) t.data_blocks l in
      let i : ℕ = n - start in
      let first = place_is t l (path_index t run.first (suc l)) in
      let last = place_is t l (path_index t (run.end - 1) (suc l)) in
      let at = between t ok run.first (run.end - 1) (suc l) i (omega (arith, some)) (omega (arith, is.0, first))
      (omega (arith, is.1, last)) in
      (i, (at.0, (at.1, omega (arith, at.2, some)), at.3), omega (arith, place_is t l i, is.0, first))

  level_shown : run.first < run.end → (m n : ℕ) → IsShown (level_runs t run m) n → IsAbove m n
  level_shown some zero n is = absurd (omega (arith, is.1.1))
  level_shown some (suc m) n is =
      elim (Contains-push_cases (level_runs t run m) (level_run t run m) is.0 is.1) [
        | inl before ↦
            let at = level_shown some m n (is.0, before, is.2) in (at.0, at.1, omega (arith, at.2), at.3, at.4)
        | inr here ↦
            let at = of_level some m n (subst (λ (x : Run). IsIn x n) (sym here) is.2) in
            (m, at.0, omega arith, at.1, at.2)
      ]

  -- of all levels
  pub shown_above : (l i : ℕ) → l < height t → IsOfSlice t run (suc l) i → IsShown (runs_above t run) (hash_place t l i)
  shown_above l i low is =
      let less : nat_lt run.first run.end ≡ true = lt-ltb run.first run.end (omega (arith, is.1.0, is.1.1)) in
      subst (λ (b : Bool). IsShown (if b then level_runs t run (height t) else []) (hash_place t l i)) (sym less)
      (shown_level (height t) l i low is)

  pub above_shown : (n : ℕ) → IsShown (runs_above t run) n → IsAbove (height t) n
  above_shown n is = by_test (nat_lt run.first run.end) refl is where
    by_test : (b : Bool) → nat_lt run.first run.end ≡ b → IsShown (if b then level_runs t run (height t) else []) n
        → IsAbove (height t) n
    by_test true e shown = level_shown (ltb-true run.first run.end e) (height t) n shown
    by_test false e shown = absurd (omega (arith, shown.1.1))

-- the runs of a run of no data block, and of one that has some
pub none_above : (t : Table) (run : Run) → run.end ≤ run.first → runs_above t run ≡ []
none_above t run none = by_test (nat_lt run.first run.end) refl where
  by_test : (b : Bool) → nat_lt run.first run.end ≡ b → (if b then level_runs t run (height t) else []) ≡ []
  by_test true e = absurd (omega (arith, ltb-true run.first run.end e, none))
  by_test false e = refl

pub all_above : (t : Table) (run : Run) → run.first < run.end → runs_above t run ≡ level_runs t run (height t)
all_above t run some = ap (λ (b : Bool). if b then level_runs t run (height t) else []) (lt-ltb run.first run.end some)
