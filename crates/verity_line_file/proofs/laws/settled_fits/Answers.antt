use Rattle.verity_line_file.proofs.Standings as standings
use Rattle.verity_line_file.proofs.laws.settled_fits.Goals as goal

pub returns-clause-fits : goal.returns-clause-fits
returns-clause-fits c = standings.fits

pub returns-clause-next : goal.returns-clause-next
returns-clause-next c = standings.no_next

pub returns-clause-held : goal.returns-clause-held
returns-clause-held c = standings.held
