use Rattle.verity_line_file.proofs.Standings as standings
use Rattle.verity_line_file.proofs.laws.begun_stands.Goals as goal

pub returns : goal.returns
returns g c = λ v folder. standings.begun v (g.F.LineFolder.may_leave folder)
