use Rattle.std.proofs.Common.{◌≡◌, ◌+◌, suc, true, IsTrue, sym, subst, arith}
use Rattle.std.proofs.lemmas.Bool.{ltb-true}
use Rattle.verity_slice_report.specs.Sliced.{IsBetween, is_of_place}
use Rattle.verity_slice_report.proofs.PlaceLemmas.{between_test, test_between, hash_test, test_hash}
use Rattle.verity_slice_report.proofs.kept.is_kept.Goals as goal

pub returns-in-Data : goal.returns-in-Data
returns-in-Data c =
    let t = c.args.tree.now in
    let run = c.args.run in (
      λ e. subst (λ p. IsTrue (is_of_place t run p)) (sym c.in-Data.is) (between_test t run 0 c.in-Data.n (c.is_in_row.ensures.0 e)),
      λ e. c.is_in_row.ensures.1 (test_between t run 0 c.in-Data.n (subst (λ p. IsTrue (is_of_place t run p)) c.in-Data.is e)),
    )

pub returns-then-level-levels : goal.returns-then-level-levels
returns-then-level-levels c =
    let t = c.args.tree.now in
    let run = c.args.run in
    let l = c.in-Hash.level in
    let i = c.in-Hash.index in
    let next : l + 1 ≡ suc l = omega arith in
    let row = c.is_in_row-then-level-levels.ensures in (
      λ e. subst (λ p. IsTrue (is_of_place t run p)) (sym c.in-Hash.is)
          (hash_test t run l i (omega (arith, c.if-level-levels.true, c.levels.ensures.value))
          (subst (λ r. IsBetween t run r i) next (row.0 e))),
      λ e. row.1 (subst (λ r. IsBetween t run r i) (sym next)
          (test_hash t run l i (subst (λ p. IsTrue (is_of_place t run p)) c.in-Hash.is e)).1),
    )

pub returns-else-level-levels : goal.returns-else-level-levels
returns-else-level-levels c =
    let t = c.args.tree.now in
    let run = c.args.run in
    let l = c.in-Hash.level in
    let i = c.in-Hash.index in (
      λ e. absurd (omega (arith, ltb-true l c.levels.result e, c.if-level-levels.false)),
      λ e. absurd (omega (
        arith,
        (test_hash t run l i (subst (λ p. IsTrue (is_of_place t run p)) c.in-Hash.is e)).0,
        c.levels.ensures.value,
        c.if-level-levels.false,
      )),
    )
