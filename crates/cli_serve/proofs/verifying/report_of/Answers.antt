use Rattle.cli_serve.proofs.Reporting.{found}
use Rattle.cli_serve.proofs.verifying.report_of.Goals as goal

pub returns-clause-found : goal.returns-clause-found
returns-clause-found g c = found _ _ _ _ _ _ c.checked-report.result c.in_ok-table.table c.new-watched.result
    c.in_ok-data_store.hash_store c.in_ok-table.ensures.line
    (rw c.new-watched.ensures c.in_ok-data_store.ensures.data, c.in_ok-data_store.ensures.hash) c.checked-report.ensures.reported
