use Rattle.os_line_file.specs.Log.{Wrote, stepped}
use Rattle.os_line_file.proofs.log.FolderLog.after_write.Given as goal

abbrev pub ghost-next_log : goal.ghost-next_log
ghost-next_log a = stepped (Wrote a._text.now) a._log.now.log
