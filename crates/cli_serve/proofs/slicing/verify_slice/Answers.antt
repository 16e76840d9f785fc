use Rattle.cli_serve.proofs.SliceReporting.{printed}
use Rattle.cli_serve.proofs.slicing.verify_slice.Goals as goal

pub returns-clause-reported : goal.returns-clause-reported
returns-clause-reported g c =
    let report = c.in_ok-report.report in
    printed _ _ _ _ _ _ c.print_report.result report.faults report.unchecked _ _ c.in_ok-slice.ensures.named
    c.in_ok-report.ensures.found c.print_report.ensures.printed c.print_report.ensures.status
