use Rattle.std.proofs.Common.{◌≡◌, ◌+◌, ◌/◌, suc, sym, ap, ◌∙◌, arith}
use Rattle.verity_chain.specs.Table.{branching}
use Rattle.verity_chain.proofs.TableLaws.{path_index-suc}
use Rattle.verity_report.specs.Descent.{seen_in}
use Rattle.verity_report.proofs.DescentLemmas.{ok_weaker, ok_both, down_passed, down_visited}
use Rattle.verity_report.proofs.OwnLemmas.{own_same}
use Rattle.verity_report.proofs.descent.step_down.Goals as goal

pub visit-requires-clause-next : goal.visit-requires-clause-next
visit-requires-clause-next g c =
    let turn : c.args.level + 1 ≡ suc c.args.level = omega arith in
    let same : seen_in c.args.rows.now (c.args.level + 1) ≡ seen_in c.args.rows.now (suc c.args.level) =
    ap (seen_in c.args.rows.now) turn in
    omega (arith, same, c.seen_of.ensures, c.if-seen_of-index.false)

pub visit-requires-clause-parent : goal.visit-requires-clause-parent
visit-requires-clause-parent g c = λ low.
    let t = c.args.tree.now in
    c.requires.down.on (suc c.args.level) (omega arith) low
    ∙ ap (λ i. suc i) (path_index-suc t c.args.n (suc c.args.level) ∙ ap (λ i. i / branching t) (sym c.above-index.ensures.value))

pub returns-then-seen_of-index-clause-down : goal.returns-then-seen_of-index-clause-down
returns-then-seen_of-index-clause-down g c =
    let t = c.args.tree.now in
    let turn : c.args.level + 1 ≡ suc c.args.level = omega arith in
    let same : seen_in c.args.rows.now (c.args.level + 1) ≡ seen_in c.args.rows.now (suc c.args.level) =
    ap (seen_in c.args.rows.now) turn in
    down_passed t c.requires.allowed c.args.n c.args.level c.args.rows.now c.requires.level c.requires.down
    (λ e. omega (arith, e, same, c.seen_of.ensures, c.above-index.ensures.value, c.if-seen_of-index.true))

pub returns-clause-down : goal.returns-clause-down
returns-clause-down g c =
    let t = c.args.tree.now in
    let n = c.args.n in
    let l = c.args.level in
    ok_both c.visit.result _ _ _ (λ here others. down_visited t n l c.args.rows.now c.visit.new.rows c.requires.down
    (here ∙ ap (λ i. suc i) c.above-index.ensures.value) others) c.visit.ensures.here c.visit.ensures.others

pub returns-clause-counted : goal.returns-clause-counted
returns-clause-counted g c =
    ok_both c.visit.result _ _ _ (λ counted added. omega (arith, counted, added)) c.visit.ensures.counted c.visit.ensures.added

pub returns-clause-most : goal.returns-clause-most
returns-clause-most g c =
    ok_weaker c.visit.result _ _ (λ counted. omega (arith, counted, c.visit.ensures.keeps.later.reads)) c.visit.ensures.counted

pub returns-then-seen_of-index-clause-own : goal.returns-then-seen_of-index-clause-own
returns-then-seen_of-index-clause-own g c = own_same g.H.BlockStore c.args.hash_store.now
