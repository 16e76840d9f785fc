use Rattle.verity_update.proofs.LineLaw.{line_is_of_new}
use Rattle.verity_update.proofs.laws.committed_line_is_of_new.Goals as goal

pub returns : goal.returns
returns g c t h h' s s' old new committed updated commits is image fits =
    line_is_of_new g.D.BlockStore g.H.BlockStore g.K.BlockStore g.N.BlockStore t h h' s s' old new committed updated commits is image fits
