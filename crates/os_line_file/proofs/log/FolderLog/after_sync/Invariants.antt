use Rattle.os_line_file.specs.Log.{synced}
use Rattle.os_line_file.proofs.log.FolderLog.after_sync.Given as goal

abbrev pub ghost-next_log : goal.ghost-next_log
ghost-next_log a = synced a._log.now.log
