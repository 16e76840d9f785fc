use Rattle.std.proofs.Common.{◌+◌, None, false, [], sym, ap, subst, ◌∙◌, arith, refl}
use Rattle.verity_report.specs.Report.{place_of}
use Rattle.verity_report.specs.declared.finding.Finding.TheVariants.{Unchecked}
use Rattle.verity_report.specs.Stores.{listed_in}
use Rattle.verity_report.specs.Descent.{Known, known, IsSoFar}
use Rattle.verity_report.proofs.DescentLemmas.{run_none, run_more, run_above, data_more, name_bad}
use Rattle.verity_report.proofs.siblings.pass_over.Goals as goal

pub each-init : goal.each-init
each-init g c = record { run = run_none c.args.rows.now; found = λ data_gave hash_gave base now d. d; counted = omega arith }

pub each-preserved : goal.each-preserved
each-preserved g c =
    let t = c.args.tree.now in
    let n = c.args.n in
    let j = c.each.j in
    let inv = c.each.invariant in
    let first = c.args.rows.now in
    let rows = c.each.rows in
    let rows' = c.note.new.rows in
    let block = (known c.each.rows 0).block in
    let step = c.in_ok-note.ensures.step in
    let name = name_bad t (n + j) rows c.requires.bad.0
    (ap (λ (k : Known). k.good) (run_above j 0 first rows inv.run) ∙ c.requires.bad.1) in
    record {
      run = run_more j Unchecked (place_of 0 (n + j)) block first rows rows' inv.run step;
      found = λ data_gave hash_gave base now d.
          let given = listed_in t data_gave hash_gave in
          subst (λ u. IsSoFar t given rows' u base now) (sym c.in_ok-note.ensures.counted)
          (data_more t given n c.args.count j Unchecked block [] first rows rows' c.each.unchecked base now now None false
          c.requires.under inv.run c.each-test.true step name refl (λ checked. absurd checked) (omega arith) (λ e. absurd (cc))
          (inv.found data_gave hash_gave base now d));
      counted = omega (arith, c.in_ok-note.ensures.counted, inv.counted);
    }
