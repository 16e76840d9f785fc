use Rattle.std.proofs.Common.{◌≡◌, sym, subst, ◌∙◌, get_or}
use Rattle.std.proofs.lemmas.List.{get_or_read}
use Rattle.verity_report.specs.Descent.{nothing_known, IsNoted, known}
use Rattle.verity_report.proofs.DescentLemmas.{ok_weaker, step_set}
use Rattle.verity_report.proofs.row.note.Goals as goal

pub returns-clause-step : goal.returns-clause-step
returns-clause-step g c =
    let rows = c.args.rows.now in
    let row = c.args.row in
    let new = c.note.new.self in
    let is = get_or_read c.args.rows.now c.args.row c.index-rows-row.result c.requires.row c.index-rows-row.is nothing_known in
    let same : get_or c.args.rows.now c.args.row c.index-rows-row.result ≡ known c.args.rows.now c.args.row = sym c.index-rows-row.is
    ∙ is in
    ok_weaker c.note.result _ _ (λ n. step_set row c.args.finding c.args.place (known rows row).block rows new c.requires.row
    (subst (λ k. IsNoted c.args.finding c.args.place k.block k new) same n)) c.note.ensures.noted
