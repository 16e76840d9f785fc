use Rattle.std.proofs.Common.{subst}
use Rattle.verity_check.specs.Verifier.{Verifying}
use Rattle.cli_serve.specs.Printed.{IsReportOver}
use Rattle.cli_serve.proofs.Reporting.{over}
use Rattle.cli_serve.proofs.verifying.checked.Goals as goal

pub returns-clause-reported : goal.returns-clause-reported
returns-clause-reported g c =
    let report = c.in_ok-report.field-0 in
    let IsOver : Verifying g.row.D.Denot g.row.H.Denot → Type 0
    = λ v. IsReportOver g.D.BlockStore g.H.BlockStore v.table v.data_store v.hash_store report.faults report.unchecked in
    subst IsOver c.in_ok-verifier.ensures.value
    (over _ _ _ _ _ _ c.in_ok-report.ensures.given c.in_ok-report.ensures.told c.in_ok-report.ensures.counted c.in_ok-report.ensures.keeps)
