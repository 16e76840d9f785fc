use Rattle.std.proofs.Common.{◌≡◌, ◌-◌, ◌++◌, suc, sym, ap, ◌∙◌, length, arith, append-nil}
use Rattle.std.proofs.lemmas.List.{get_or_read}
use Rattle.verity_report.specs.Descent.{Known, nothing_known, faults_below}
use Rattle.verity_report.proofs.DescentLemmas.{below_more}
use Rattle.verity_report.proofs.report.joined.Goals as goal

pub loop-row-init : goal.loop-row-init
loop-row-init g c =
    let rows = c.args.rows.now in
    record {
      low = omega arith;
      joined = ap (λ fs. fs ++ faults_below rows (length rows)) c.new-faults.ensures.items;
    }

pub loop-row-preserved : goal.loop-row-preserved
loop-row-preserved g c =
    let rows = c.args.rows.now in
    let row = c.loop-row.row in
    let inv = c.loop-row.invariant in
    let turn : suc (c.loop-row.row - 1) ≡ c.loop-row.row = omega (arith, c.loop-row-test.true) in
    let is = get_or_read c.args.rows.now (c.loop-row.row - 1) c.index-rows-row.result (omega (arith, inv.low, c.loop-row-test.true))
    c.index-rows-row.is nothing_known in
    record {
      low = omega (arith, inv.low);
      joined = below_more rows (row - 1) (length rows) c.loop-row.faults.items c.faults.result.now c.extend_from_slice.new.self.items
          (c.faults.ensures ∙ ap (λ (k : Known). k.faults) is) c.in_ok-extend_from_slice.ensures.items
          (ap (λ m. c.loop-row.faults.items ++ faults_below rows m) turn ∙ inv.joined);
    }

pub returns : goal.returns
returns g c =
    let rows = c.args.rows.now in
    let none : c.loop-row.row ≡ 0 = omega (arith, c.loop-row-test.false) in
    sym (append-nil c.loop-row.faults.items) ∙ ap (λ m. c.loop-row.faults.items ++ faults_below rows m) (sym none)
    ∙ c.loop-row.invariant.joined
