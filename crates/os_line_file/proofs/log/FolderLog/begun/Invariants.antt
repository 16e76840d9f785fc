use Rattle.os_line_file.specs.Held.{texts_of}
use Rattle.os_line_file.specs.Log.{fresh}
use Rattle.os_line_file.proofs.log.FolderLog.begun.Given as goal

abbrev pub ghost-first_log : goal.ghost-first_log
ghost-first_log a = fresh (texts_of a._line.now a._next.now)
