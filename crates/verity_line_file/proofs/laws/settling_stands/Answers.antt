use Rattle.verity_line_file.proofs.Standings as standings
use Rattle.verity_line_file.proofs.laws.settling_stands.Goals as goal

pub returns : goal.returns
returns g c = λ v folder. standings.settling v (g.F.LineFolder.seen folder) (g.F.LineFolder.may_leave folder)
