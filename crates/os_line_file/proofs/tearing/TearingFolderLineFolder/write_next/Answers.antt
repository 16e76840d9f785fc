use Rattle.std.proofs.Common.{◌∙◌}
use Rattle.os_line_file.proofs.Steps.{write_done}
use Rattle.os_line_file.proofs.tearing.TearingFolderLineFolder.write_next.Goals as goal

pub returns-in-None-clause-time : goal.returns-in-None-clause-time
returns-in-None-clause-time c =
    write_done c.args.self.now.held c.cut.new.self.held c.sync.new.self _ (c.cut.ensures.held ∙ c.write.ensures) c.sync.ensures
