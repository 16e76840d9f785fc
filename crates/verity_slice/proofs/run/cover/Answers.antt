use Rattle.std.proofs.Common.{◌≡◌, ℕ, ◌+◌, ◌<◌, ◌≤◌, ◌⊎◌, inl, inr, List, length, Contains, slice_index_or, ⊎_elim, sym, ap, refl}
use Rattle.std.proofs.Common.{subst, arith, rules}
use Rattle.std.proofs.lemmas.Bool.{cases_lt, le-leb, leb-true}
use Rattle.std.proofs.lemmas.List.{get_or_read}
use Rattle.std.proofs.lemmas.List.Elements.{Contains-get_or}
use Rattle.std.proofs.lemmas.List.Sorted.{IsNonDecreasingBy-from_sort_by_key, IsPermutation-sym, Contains-permutation}
use Rattle.verity_slice.specs.declared.run.Run.{Run}
use Rattle.verity_slice.proofs.run.cover.Goals as goal
use Rattle.verity_slice.proofs.run.cover.Goals.{then-run-reach+then-reach-run, else-run-reach}
use Rattle.verity_slice.proofs.run.cover.Goals.{else-run-reach-via-then-run-reach+else-reach-run, else-run-reach-via-else-run-reach}

IsPast : List Run → ℕ → ℕ → Type 0
IsPast xs reach j = (d : Run) → ((slice_index_or xs j d).end ≤ reach) ⊎ (reach < (slice_index_or xs j d).first)

pub loop-i-preserved : goal.loop-i-preserved
loop-i-preserved g c =
    let xs : List Run = c.sort_unstable_by_key.new.self.items in
    let i : ℕ = c.loop-i.i in
    let reach : ℕ = c.loop-i.reach in
    let run : Run = c.index-run.result.now in
    let there : i < length xs = omega (arith, c.loop-i-test.true, c.len-i-end.ensures) in
    let sorted = IsNonDecreasingBy-from_sort_by_key (λ (r : Run). r.first) xs c.sort_unstable_by_key.ensures.sorted
    (λ a r q k. search rules) in
    let is = λ (d : Run). get_or_read xs i run there c.index-run.ensures d in
    let first = λ (d : Run). ap (λ (r : Run). r.first) (is d) in
    let end = λ (d : Run). ap (λ (r : Run). r.end) (is d) in
    let split = λ (new : ℕ) (grows : reach ≤ new) (low : (j : ℕ) (d : Run) → j < i → new ≡ reach ⊎ ((slice_index_or xs j d).end ≤ reach))
    (here : (d : Run) → ((slice_index_or xs i d).end ≤ new) ⊎ (new < (slice_index_or xs i d).first)) (j : ℕ) (d : Run)
    (below : j < i + 1). ⊎_elim {C = ((slice_index_or xs j d).end ≤ new) ⊎ (new < (slice_index_or xs j d).first)}
    (λ before. ⊎_elim {C = ((slice_index_or xs j d).end ≤ new) ⊎ (new < (slice_index_or xs j d).first)}
    (λ same. ⊎_elim {C = ((slice_index_or xs j d).end ≤ new) ⊎ (new < (slice_index_or xs j d).first)}
    (λ a. inl (omega (arith, a, grows))) (λ b. inr (omega (arith, b, same))) (c.loop-i.invariant.past j d before))
    (λ a. inl (omega (arith, a, grows)))
    (low j d before))
    (λ from. let at : i ≡ j = omega (arith, from, below) in
    subst (λ m. ((slice_index_or xs m d).end ≤ new) ⊎ (new < (slice_index_or xs m d).first)) at (here d))
    (cases_lt j i) in
    elim c.if-run-reach.branch [
      | then-run-reach+then-reach-run w ↦
          rw w.reach-is record {
            reached = λ q below. ⊎_elim
                (λ before. c.loop-i.invariant.reached q before)
                (λ from. (
                  run,
                  subst (λ r. Contains xs r) (sym (is run)) (Contains-get_or xs i run there),
                  (omega (arith, from, w.if-run-reach), below),
                ))
                (cases_lt q reach);
            past = split run.end (omega (arith, w.if-reach-run))
                (λ j d before. ⊎_elim (λ a. inr a)
                (λ b. let order = sorted i i d (omega arith) there in
                let low = sorted j i d (omega (arith, before)) there in
                absurd (omega (arith, b, low, first d, w.if-run-reach)))
                (c.loop-i.invariant.past j d before))
                (λ d. inl (omega (arith, end d)));
            moved = c.loop-i.invariant.moved;
          }
      | else-run-reach w ↦
          rw w.reach-is record {
            reached = c.loop-i.invariant.reached;
            past = split reach (omega arith) (λ j d before. inl refl)
                (elim w.else-run-reach.branch [
                  | else-run-reach-via-then-run-reach+else-reach-run w' ↦ λ d. inl (omega (arith, w'.if-reach-run, end d))
                  | else-run-reach-via-else-run-reach w' ↦ λ d. inr (omega (arith, w'.if-run-reach, first d))
                ]);
            moved = c.loop-i.invariant.moved;
          }
    ]

pub returns-clause-covered : goal.returns-clause-covered
returns-clause-covered g c =
    let xs : List Run = c.sort_unstable_by_key.new.self.items in
    let old : List Run = c.args.runs.now.items in
    let moved = c.loop-i.invariant.moved in
    let reach : ℕ = c.loop-i.reach in
    let all : length xs ≤ c.loop-i.i = omega (arith, c.loop-i-test.false, c.len-i-end.ensures) in (
      λ yes q below.
          let found = c.loop-i.invariant.reached q (let enough = leb-true c.args.count reach yes in omega (arith, enough, below)) in
          (found.0, Contains-permutation xs old found.0 (IsPermutation-sym old xs moved) found.1, found.2),
      λ covers. ⊎_elim
          (λ short.
          let found = covers reach short in
          let in_new = Contains-permutation old xs found.0 moved found.1 in
          let past = c.loop-i.invariant.past in_new.0 found.0 (omega (arith, in_new.1, all)) in
          let is = ap (λ (r : Run). r.first) in_new.2 in
          let is_end = ap (λ (r : Run). r.end) in_new.2 in
          absurd (⊎_elim {C = ⊥} (λ a. omega (arith, a, is_end, found.2.1)) (λ b. omega (arith, b, is, found.2.0)) past))
          (λ long. le-leb c.args.count reach long)
          (cases_lt reach c.args.count),
    )
