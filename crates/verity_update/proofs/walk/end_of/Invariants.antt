use Rattle.verity_update.proofs.walk.end_of.Given as goal

abbrev pub ghost-at : goal.ghost-at
ghost-at g a = g.count
