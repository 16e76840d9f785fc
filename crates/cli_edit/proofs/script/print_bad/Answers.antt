use Rattle.cli_edit.specs.Printed.{BadLine}
use Rattle.cli_edit.proofs.Answering.{one_answer}
use Rattle.cli_edit.proofs.script.print_bad.Goals as goal

pub returns-clause-answered : goal.returns-clause-answered
returns-clause-answered g c on = one_answer on _ _ BadLine c.in_ok-writeln.ensures.bytes
