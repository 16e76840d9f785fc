use Rattle.verity_disks.proofs.file_log.FileLog.begun.Given as goal

abbrev pub ghost-log_of : goal.ghost-log_of
ghost-log_of g a = g.kept
