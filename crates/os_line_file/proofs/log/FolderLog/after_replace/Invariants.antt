use Rattle.os_line_file.specs.Log.{Replaced, stepped}
use Rattle.os_line_file.proofs.log.FolderLog.after_replace.Given as goal

abbrev pub ghost-next_log : goal.ghost-next_log
ghost-next_log a = stepped (Replaced) a._log.now.log
