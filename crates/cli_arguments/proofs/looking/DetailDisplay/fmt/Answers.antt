use Rattle.cli_arguments.proofs.looking.DetailDisplay.fmt.Goals as goal

pub returns-in-Bytes-clause-writes : goal.returns-in-Bytes-clause-writes
returns-in-Bytes-clause-writes g c = rw c.in-Bytes.is c.write-in-Bytes.ensures.writes
