use Rattle.verity_disks.proofs.past.next_after_files.Given as goal

abbrev pub ghost-past_of : goal.ghost-past_of
ghost-past_of g a = g.moments
