use Rattle.std.proofs.Common.{[], refl}
use Rattle.verity_report.specs.Stores.{given_in}
use Rattle.verity_check.proofs.ReportLaws.{bad_is_wrong, bad_is_other, unread_has_failed, verified_is_chained, verified_is_right}
use Rattle.verity_check.proofs.VerifierLemmas.{sized_by}
use Rattle.verity_check.proofs.laws.report_is_right.Goals as goal

pub returns-clause-bad : goal.returns-clause-bad
returns-clause-bad g c = λ t marks d h faults unchecked old new ok report.
    bad_is_wrong t ok (given_in g.D.BlockStore g.H.BlockStore t marks d h) faults unchecked old new report

pub returns-clause-other : goal.returns-clause-other
returns-clause-other g c = λ t marks d h faults unchecked old new ok report.
    bad_is_other t ok (given_in g.D.BlockStore g.H.BlockStore t marks d h) faults unchecked old new report

pub returns-clause-unread : goal.returns-clause-unread
returns-clause-unread g c = λ t marks d h faults unchecked old new ok report.
    unread_has_failed t ok (given_in g.D.BlockStore g.H.BlockStore t marks d h) faults unchecked old new report

pub returns-clause-verified : goal.returns-clause-verified
returns-clause-verified g c = λ t marks d h unchecked old new ok report.
    verified_is_chained t ok (given_in g.D.BlockStore g.H.BlockStore t marks d h) [] unchecked old new report refl

pub returns-clause-right : goal.returns-clause-right
returns-clause-right g c = λ t marks d h unchecked old new ok data_store hash_store report image fits.
    let D = g.D.BlockStore in
    let H = g.H.BlockStore in
    verified_is_right t ok (given_in D H t marks d h) [] unchecked old new report image fits
    (sized_by D H t marks d h data_store.size hash_store.size) refl
