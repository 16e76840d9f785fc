use Rattle.verity_read_log.proofs.next_after.Given as goal

abbrev pub ghost-given_at : goal.ghost-given_at
ghost-given_at g a = g.blocks
