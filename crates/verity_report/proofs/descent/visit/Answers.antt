use Rattle.std.proofs.Common.{◌≡◌, ◌+◌, suc, drop, refl, sym, ap, subst, ◌∙◌, arith}
use Rattle.verity_store.specs.Given.{GaveSince}
use Rattle.verity_chain.proofs.ChainLemmas.{Grows}
use Rattle.verity_report.specs.Finding.{IsChecked}
use Rattle.verity_report.specs.Report.{place_of}
use Rattle.verity_report.specs.Stores.{listed_in}
use Rattle.verity_report.specs.Descent.{Known, seen_in, IsStep, IsNamed, IsSoFar}
use Rattle.verity_report.proofs.RowCounts.{row_few}
use Rattle.verity_report.proofs.DescentLemmas.{ok_weaker, ok_both, rows_step, places_step, so_far_more}
use Rattle.verity_report.proofs.OwnLemmas.{listed_on}
use Rattle.verity_report.proofs.descent.visit.Goals as goal

pub returns-clause-rows : goal.returns-clause-rows
returns-clause-rows g c =
    let t = c.args.tree.now in
    let l = c.args.level in
    let rows = c.args.rows.now in
    let rows' = c.note_block.new.rows in
    let turn : c.args.level + 1 ≡ suc c.args.level = omega arith in
    ok_weaker c.note_block.result _ _
    (λ s. rows_step t l c.look-finding.result (place_of (suc l) c.args.index) c.look-finding.new.block rows rows'
    (subst (λ m. IsStep m c.look-finding.result (place_of (suc l) c.args.index) c.look-finding.new.block rows rows') turn s)
    (c.look-finding.auto.block ∙ c.requires.block) c.requires.rows) c.note_block.ensures.step

pub returns-clause-here : goal.returns-clause-here
returns-clause-here g c =
    let l = c.args.level in
    let rows = c.args.rows.now in
    let rows' = c.note_block.new.rows in
    let turn : c.args.level + 1 ≡ suc c.args.level = omega arith in
    ok_weaker c.note_block.result _ _ (λ s.
    let step = subst (λ m. IsStep m c.look-finding.result (place_of (suc l) c.args.index) c.look-finding.new.block rows rows') turn s in
    step.noted.seen ∙ ap (λ n. suc n) c.requires.next) c.note_block.ensures.step

pub returns-clause-others : goal.returns-clause-others
returns-clause-others g c =
    let l = c.args.level in
    let rows = c.args.rows.now in
    let rows' = c.note_block.new.rows in
    let turn : c.args.level + 1 ≡ suc c.args.level = omega arith in
    ok_weaker c.note_block.result _ _ (λ s r ne.
    let step = subst (λ m. IsStep m c.look-finding.result (place_of (suc l) c.args.index) c.look-finding.new.block rows rows') turn s in
    ap (λ (k : Known). k.seen) (step.others r ne)) c.note_block.ensures.step

pub returns-clause-added : goal.returns-clause-added
returns-clause-added g c =
    let l = c.args.level in
    let rows = c.args.rows.now in
    let rows' = c.note_block.new.rows in
    let turn : c.args.level + 1 ≡ suc c.args.level = omega arith in
    ok_weaker c.note_block.result _ _ (λ s. places_step c.args.tree.now (suc l) c.look-finding.result (place_of (suc l) c.args.index)
    c.look-finding.new.block rows rows' (omega (arith, c.requires.level))
    (subst (λ m. IsStep m c.look-finding.result (place_of (suc l) c.args.index) c.look-finding.new.block rows rows') turn s))
    c.note_block.ensures.step

pub returns-clause-counted : goal.returns-clause-counted
returns-clause-counted g c = ok_weaker c.note_block.result _ _ (λ e. omega (arith, e, c.look-finding.ensures.counted))
    c.note_block.ensures.counted

pub returns-clause-found : goal.returns-clause-found
returns-clause-found g c = λ mark marked gave base other d.
    let H = g.H.BlockStore in
    let t = c.args.tree.now in
    let l = c.args.level in
    let i = c.args.index in
    let f = c.look-finding.result in
    let block = c.look-finding.new.block in
    let named = c.name_of-named.result in
    let rows = c.args.rows.now in
    let rows' = c.note_block.new.rows in
    let e = c.look-finding.ensures in
    let old = listed_in t gave (drop mark (H.given c.args.hash_store.now)) in
    let new = listed_in t gave (drop mark (H.given c.look-finding.new.store)) in
    let turn : c.args.level + 1 ≡ suc c.args.level = omega arith in
    let name = subst (λ m. IsNamed t m i rows named) turn c.name_of-named.ensures in
    let given : IsChecked c.look-finding.result → new (suc c.args.level) c.args.index c.look-finding.new.block = λ checked.
    subst (λ n. GaveSince (H.given c.look-finding.new.store) mark n block) c.hash_place-number.ensures.value (e.gave checked mark marked) in
    let more : Grows old new = listed_on t (H.given c.args.hash_store.now) (H.given c.look-finding.new.store) gave mark
    e.keeps.later.gave in
    ok_both c.note_block.result _ _ _ (λ s counted.
    let step = subst (λ m. IsStep m f (place_of (suc l) i) block rows rows') turn s in
    subst (λ u. IsSoFar t new rows' u base (other + H.failures c.look-finding.new.store)) (sym counted)
    (so_far_more t old new more (suc l) i f block block rows rows' step c.requires.next (omega (arith, c.requires.level))
    (λ some good. refl) given
    c.args.unchecked.now base (other + H.failures c.args.hash_store.now) (other + H.failures c.look-finding.new.store) named e.judged.0 d
    c.requires.parent name e.judged.1 (omega (arith, e.keeps.later.failures)) (λ b. omega (arith, e.judged.2 b))))
    c.note_block.ensures.step c.note_block.ensures.counted

pub note_block-requires-clause-seen : goal.note_block-requires-clause-seen
note_block-requires-clause-seen g c =
    let turn : c.args.level + 1 ≡ suc c.args.level = omega arith in
    let same : seen_in c.args.rows.now (c.args.level + 1) ≡ seen_in c.args.rows.now (suc c.args.level) =
    ap (seen_in c.args.rows.now) turn in
    omega (arith, same, c.requires.next, c.requires.index, row_few c.args.tree.now c.requires.allowed (suc c.args.level))
