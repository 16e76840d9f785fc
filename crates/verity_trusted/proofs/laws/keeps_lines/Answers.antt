use Rattle.verity_trusted.proofs.LineLaws.{lines_kept}
use Rattle.verity_trusted.proofs.laws.keeps_lines.Goals as goal

pub returns : goal.returns
returns c steps t image right fits = lines_kept steps t image right fits
