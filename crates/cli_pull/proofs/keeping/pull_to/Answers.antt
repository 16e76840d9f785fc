use Rattle.cli_pull.proofs.KeepingLemmas.{left_to, pulled_to}
use Rattle.cli_pull.proofs.Results.{on_err_then, on_ok}
use Rattle.cli_pull.proofs.keeping.pull_to.Goals as goal

pub returns-in_ok-file-in-Some-clause-pulled : goal.returns-in_ok-file-in-Some-clause-pulled
returns-in_ok-file-in-Some-clause-pulled g c = on_ok c.pull_into-pulled.result
    (pulled_to g.S.System g.S.Store.BlockStore g.S.Journalled.Disks _ g.L.LineFolders g.L.Folder.LineFolder c.args.system.now
    c.pull_into-pulled.new.system c.args.folders.now c.close_line_file.new.folders c.args.words.now c.in-Some.path
    c.in_ok-file-in-Some.file.folder c.pull_into-pulled.new.file.folder _ _ c.in-Some.is
    (record {
      during = c.open_line_file.new.folders;
      opened = c.in_ok-file-in-Some.ensures.opened;
      closed = c.close_line_file.ensures.closed;
    }) c.in_ok-check_file-in-Some.ensures.apart)
    c.pull_into-pulled.ensures.pulled

pub returns-in_ok-file-in-Some-clause-left : goal.returns-in_ok-file-in-Some-clause-left
returns-in_ok-file-in-Some-clause-left g c = on_err_then c.pull_into-pulled.result
    (left_to g.S.System g.S.Store.BlockStore g.S.Journalled.Disks _ g.L.LineFolders g.L.Folder.LineFolder c.args.system.now
    c.pull_into-pulled.new.system c.args.folders.now c.close_line_file.new.folders c.args.words.now c.in-Some.path
    c.in_ok-file-in-Some.file.folder c.pull_into-pulled.new.file.folder c.in-Some.is
    (record {
      during = c.open_line_file.new.folders;
      opened = c.in_ok-file-in-Some.ensures.opened;
      closed = c.close_line_file.ensures.closed;
    }))
    c.pull_into-pulled.ensures.left
