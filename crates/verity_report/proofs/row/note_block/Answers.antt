use Rattle.std.proofs.Common.{◌≡◌, suc, sym, ap, ◌∙◌, ◌++◌, get_or, length, arith}
use Rattle.std.proofs.lemmas.List.{get_or_read}
use Rattle.verity_report.specs.Report.{entry}
use Rattle.verity_report.specs.Descent.{Known, nothing_known, known}
use Rattle.verity_report.proofs.DescentLemmas.{ok_weaker, step_set}
use Rattle.verity_report.proofs.row.note_block.Goals as goal

pub keep-requires : goal.keep-requires
keep-requires g c =
    let is = get_or_read c.args.rows.now c.args.row c.index-rows-row.result c.requires.row c.index-rows-row.is nothing_known in
    c.requires.whole ∙ ap (λ (k : Known). length k.block) (sym is ∙ c.index-rows-row.is)

pub note-requires-clause-seen : goal.note-requires-clause-seen
note-requires-clause-seen g c =
    let is = get_or_read c.args.rows.now c.args.row c.index-rows-row.result c.requires.row c.index-rows-row.is nothing_known in
    let seen = c.keep.ensures.seen ∙ ap (λ (k : Known). k.seen) (sym c.index-rows-row.is ∙ is) in
    omega (arith, seen, c.requires.seen)

pub returns-clause-step : goal.returns-clause-step
returns-clause-step g c =
    let rows = c.args.rows.now in
    let row = c.args.row in
    let new = c.note.new.self in
    let mid = c.keep.new.self in
    let is = get_or_read c.args.rows.now c.args.row c.index-rows-row.result c.requires.row c.index-rows-row.is nothing_known in
    let same : get_or c.args.rows.now c.args.row c.index-rows-row.result ≡ known c.args.rows.now c.args.row = sym c.index-rows-row.is
    ∙ is in
    ok_weaker c.note.result _ _ (λ n. step_set row c.args.finding c.args.place c.args.block.now rows new c.requires.row (record {
      seen = n.seen ∙ ap (λ x. suc x) (c.keep.ensures.seen ∙ ap (λ (k : Known). k.seen) same);
      good = n.good;
      kept = n.kept ∙ c.keep.ensures.block;
      faults = n.faults ∙ ap (λ fs. fs ++ entry c.args.finding c.args.place) (c.keep.ensures.faults ∙ ap (λ (k : Known). k.faults) same);
    })) c.note.ensures.noted
