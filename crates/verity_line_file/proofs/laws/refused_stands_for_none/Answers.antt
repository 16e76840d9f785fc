use Rattle.verity_line_file.proofs.Standings as standings
use Rattle.verity_line_file.proofs.laws.refused_stands_for_none.Goals as goal

pub returns : goal.returns
returns c = standings.refused c.determines_line.ensures
