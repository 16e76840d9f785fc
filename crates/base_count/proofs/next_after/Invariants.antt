use Rattle.base_count.proofs.next_after.Given as goal

abbrev pub ghost-count_at : goal.ghost-count_at
ghost-count_at g a = g.n
