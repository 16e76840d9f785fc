use Rattle.cli_serve.proofs.Reporting.{reported}
use Rattle.cli_serve.proofs.verifying.verify.Goals as goal

pub returns-clause-reported : goal.returns-clause-reported
returns-clause-reported g c =
    let report = c.in_ok-report.report in
    reported _ _ _ _ c.print_report.result report.faults report.unchecked _ _ c.in_ok-report.ensures.found
    c.print_report.ensures.printed c.print_report.ensures.status
