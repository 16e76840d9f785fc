use Rattle.std.proofs.Common.{sym, ◌∙◌}
use Rattle.cli_edit.proofs.Cutting.{at_line, at_end}
use Rattle.cli_edit.proofs.script.first_line.Goals as goal

pub returns-in-Some-clause-split : goal.returns-in-Some-clause-split
returns-in-Some-clause-split c = at_line c.args.bytes.now c.in-Some.at (sym c.end_of_line.ensures.place ∙ c.in-Some.is)

pub returns-in-None-clause-whole : goal.returns-in-None-clause-whole
returns-in-None-clause-whole c _ = at_end c.args.bytes.now (sym c.end_of_line.ensures.place ∙ c.in-None.is)
