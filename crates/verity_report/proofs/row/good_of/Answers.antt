use Rattle.std.proofs.Common.{◌∙◌, ap}
use Rattle.std.proofs.lemmas.List.{get_or_read}
use Rattle.verity_report.specs.Descent.{Known, nothing_known}
use Rattle.verity_report.proofs.row.good_of.Goals as goal

pub returns : goal.returns
returns g c =
    let is = get_or_read c.args.rows.now c.args.row c.index-rows-row.result c.requires c.index-rows-row.is nothing_known in
    c.is_good.ensures ∙ ap (λ (k : Known). k.good) is
