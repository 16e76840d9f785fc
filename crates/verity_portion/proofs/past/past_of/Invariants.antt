use Rattle.verity_portion.proofs.past.past_of.Given as goal

abbrev pub ghost-past_at : goal.ghost-past_at
ghost-past_at g a = g.rows
