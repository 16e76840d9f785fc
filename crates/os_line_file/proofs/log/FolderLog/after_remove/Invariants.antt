use Rattle.os_line_file.specs.Log.{Removed, stepped}
use Rattle.os_line_file.proofs.log.FolderLog.after_remove.Given as goal

abbrev pub ghost-next_log : goal.ghost-next_log
ghost-next_log a = stepped (Removed) a._log.now.log
