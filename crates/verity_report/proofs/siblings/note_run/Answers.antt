use Rattle.std.proofs.Common.{◌≡◌, ◌<◌, ◌+◌, [], Some, false, true, sym, ap, subst, ◌∙◌, length, arith}
use Rattle.std.proofs.lemmas.List.{get_or_read}
use Rattle.verity_chain.specs.Table.{height}
use Rattle.verity_report.specs.Report.{place_of, unchecked_one}
use Rattle.verity_report.specs.Stores.{listed_in}
use Rattle.verity_report.specs.Descent.{Known, known, IsSoFar, compared}
use Rattle.verity_report.proofs.DescentLemmas.{run_none, run_more, run_above, data_more, name_good, name_only}
use Rattle.verity_report.proofs.DescentLemmas.{compared_judged, compared_checked}
use Rattle.verity_report.proofs.siblings.note_run.Goals as goal

pub each-init : goal.each-init
each-init g c = record { run = run_none c.args.rows.now; found = λ data_gave hash_gave blocks at base now d. d; counted = omega arith }

pub each-preserved : goal.each-preserved
each-preserved g c =
    let t = c.args.tree.now in
    let n = c.args.n in
    let j = c.each.j in
    let inv = c.each.invariant in
    let first = c.args.rows.now in
    let rows = c.each.rows in
    let rows' = c.note.new.rows in
    let block = (known c.each.rows 0).block in
    let step = c.in_ok-note.ensures.step in
    let f = c.compare-finding.result in
    let named = c.name_of.result in
    let made = c.index-digests-j.result in
    let is = get_or_read c.args.digests.now c.each.j c.index-digests-j.result c.each-test.true c.index-digests-j.is [] in
    let good : 0 < height c.args.tree.now → (known c.each.rows 1).good ≡ true =
    λ some. ap (λ (k : Known). k.good) (run_above j 0 first rows inv.run) ∙ c.requires.good some in
    let name = name_good t (n + j) rows good in
    let none : unchecked_one c.compare-finding.result ≡ 0 =
    ap unchecked_one (c.compare-finding.ensures
    ∙ ap (λ m. compared m made) (name_only t (n + j) rows named (Some name.0) c.name_of.ensures name.1))
    ∙ compared_checked name.0 made in
    record {
      run = run_more j f (place_of 0 (n + j)) block first rows rows' inv.run step;
      found = λ data_gave hash_gave blocks at base now d.
          let given = listed_in t data_gave hash_gave in
          let here = at j c.each-test.true in
          subst (λ u. IsSoFar t given rows' u base now) (sym c.in_ok-note.ensures.counted)
          (data_more t given n (length c.args.digests.now) j f block (blocks j) first rows rows' c.each.unchecked base now now named false
          c.requires.under inv.run c.each-test.true step c.name_of.ensures
          (c.compare-finding.ensures ∙ ap (λ d. compared named d) (is ∙ here.0) ∙ compared_judged t named (blocks j)) (λ checked. here.1)
          (omega arith) (λ e. absurd (cc)) (inv.found data_gave hash_gave blocks at base now d));
      counted = omega (arith, c.in_ok-note.ensures.counted, inv.counted, none);
    }
