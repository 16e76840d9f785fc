use Rattle.verity_line_file.proofs.Standings as standings
use Rattle.verity_line_file.proofs.laws.finished_stands.Goals as goal

pub returns-clause-stands : goal.returns-clause-stands
returns-clause-stands g c = λ w folder. standings.stands w (g.F.LineFolder.seen folder) (g.F.LineFolder.may_leave folder)

pub returns-clause-done : goal.returns-clause-done
returns-clause-done g c = standings.done
