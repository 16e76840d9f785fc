use Rattle.verity_line_file.proofs.Standings as standings
use Rattle.verity_line_file.proofs.laws.under_way_stands.Goals as goal

pub returns-clause-before : goal.returns-clause-before
returns-clause-before c = standings.before

pub returns-clause-after : goal.returns-clause-after
returns-clause-after c = standings.after

pub returns-clause-next : goal.returns-clause-next
returns-clause-next c = standings.next
