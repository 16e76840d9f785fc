use Rattle.std.proofs.Common.{◌≡◌, ◌+◌, ◌-◌, ◌≤◌, ℕ, suc, sym, ap, ◌∙◌, subst, arith}
use Rattle.verity_slice.specs.declared.run.Run.{Run}
use Rattle.verity_chain.specs.Table.{path_index}
use Rattle.verity_slice_report.specs.Sliced.{below}
use Rattle.verity_slice_report.proofs.PlaceLemmas.{path_low}
use Rattle.verity_slice_report.proofs.BelowLemmas.{count_few}
use Rattle.verity_slice_report.proofs.kept.count_below.Goals as goal

pub loop-row-init : goal.loop-row-init
loop-row-init c =
    let t = c.args.tree.now in
    let run = c.args.run in
    let up : c.args.level + 1 ≡ suc c.args.level = omega arith in
    let place : Run = record { first = c.args.index; end = c.args.index + 1 } in
    let same : below t run (c.args.level + 1) place ≡ below t run (suc c.args.level) place = ap (λ (r : ℕ). below t run r place) up in
    record {
      low = omega arith;
      first = subst (λ (r : ℕ). c.args.index ≤ path_index t (run.end - 1) r) (sym up) c.requires.index;
      few = omega (arith, c.requires.level, c.levels-levels.ensures.most, c.levels-levels.ensures.value);
      counted = omega (arith, same);
    }

pub overflow_add-places : goal.overflow_add-places
overflow_add-places c =
    let t = c.args.tree.now in
    let ok = c.table-table.ensures.allowed in
    omega (
      arith,
      c.requires.index,
      path_low t ok (c.args.run.end - 1) (suc c.args.level),
      c.requires.within,
      count_few t ok,
    )

pub children_of-places-requires-clause-first : goal.children_of-places-requires-clause-first
children_of-places-requires-clause-first c =
    let turn : suc (c.loop-row.row - 1) ≡ c.loop-row.row = omega (arith, c.loop-row-test.true) in
    subst (λ r. c.loop-row.places.first ≤ path_index c.args.tree.now (c.args.run.end - 1) r) (sym turn) c.loop-row.invariant.first

pub overflow_add-count : goal.overflow_add-count
overflow_add-count c =
    omega (arith, c.loop-row.invariant.few, c.saturating_sub-count.ensures, c.children_of-places.ensures.few, c.loop-row-test.true)

pub loop-row-preserved : goal.loop-row-preserved
loop-row-preserved c =
    let t = c.args.tree.now in
    let run = c.args.run in
    let inv = c.loop-row.invariant in
    let q : ℕ = c.loop-row.row - 1 in
    let turn : suc q ≡ c.loop-row.row = omega (arith, c.loop-row-test.true) in
    let made = c.children_of-places.ensures in
    let unrolled = ap (λ r. below t run r c.loop-row.places) (sym turn) in
    let same = ap (λ (x : Run). (x.end - x.first) + below t run q x) made.value in
    record {
      low = omega (arith, inv.low);
      first = made.first;
      few = omega (arith, inv.few, c.saturating_sub-count.ensures, made.few, c.loop-row-test.true);
      counted = omega (arith, inv.counted, unrolled, same, c.saturating_sub-count.ensures);
    }

pub returns : goal.returns
returns c =
    let none : c.loop-row.row ≡ 0 = omega (arith, c.loop-row-test.false) in
    let zero = ap (λ r. below c.args.tree.now c.args.run r c.loop-row.places) none in
    let same : c.loop-row.count + below c.args.tree.now c.args.run c.loop-row.row c.loop-row.places ≡ c.loop-row.count =
    omega (arith, zero) in
    sym same ∙ c.loop-row.invariant.counted
