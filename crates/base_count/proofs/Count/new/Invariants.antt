use Rattle.base_count.proofs.Count.new.Given as goal

abbrev pub ghost-count_at : goal.ghost-count_at
ghost-count_at a = 0
