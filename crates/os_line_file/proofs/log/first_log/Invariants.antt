use Rattle.os_line_file.proofs.log.first_log.Given as goal

abbrev pub ghost-log_of : goal.ghost-log_of
ghost-log_of g a = g.log
