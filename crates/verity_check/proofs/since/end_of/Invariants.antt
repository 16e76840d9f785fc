use Rattle.verity_check.proofs.since.end_of.Given as goal

abbrev pub ghost-at : goal.ghost-at
ghost-at g a = g.count
