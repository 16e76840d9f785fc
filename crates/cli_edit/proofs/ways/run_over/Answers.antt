use Rattle.cli_edit.proofs.Keeping.{keeps_itself}
use Rattle.cli_edit.proofs.ways.run_over.Goals as goal

pub returns-in_err-hash-clause-lasting : goal.returns-in_err-hash-clause-lasting
returns-in_err-hash-clause-lasting g c = keeps_itself g.F.LineFolder g.met.F.LineFolder.only_now c.args.commits.now.line
