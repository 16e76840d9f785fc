use Rattle.os_line_file.proofs.Steps.{write_done}
use Rattle.os_line_file.proofs.files.OsFolderLineFolder.write_next.Goals as goal

pub returns-clause-time : goal.returns-clause-time
returns-clause-time g c = write_done c.args.self.now.held c.write.new.self c.sync.new.self _ c.write.ensures c.sync.ensures
