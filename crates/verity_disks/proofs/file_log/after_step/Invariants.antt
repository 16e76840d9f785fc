use Rattle.verity_disks.proofs.file_log.after_step.Given as goal

abbrev pub ghost-log_of : goal.ghost-log_of
ghost-log_of g a = g.kept
