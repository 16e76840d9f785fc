use Rattle.cli_edit.proofs.Keeping.{kept_there, left_settled, left_unsettled, settled_file}
use Rattle.cli_edit.proofs.line_files.kept_line.Goals as goal

pub returns-in-Err-clause-left : goal.returns-in-Err-clause-left
returns-in-Err-clause-left g c =
    left_unsettled g.R.Paths _ _ g.L.LineFolders g.L.Folder.LineFolder c.args.rt.now c.args.words.now.data_path.now
    c.args.words.now.hash_path.now
    (record {
      on = c.new-host.result;
      same = c.new-host.ensures;
      image = c.args.«data».now;
      device = c.args.hash.now;
      data_opened = c.requires.«data»;
      hash_opened = c.requires.hash;
    })
    c.args.folders.now c.open_line_file.new.folders c.close_line_file.new.folders c.args.words.now.table_file c.in-Some.path
    c.in_ok-file.file.folder c.settle_opened.new.file.folder c.in-Err.failure c.in-Some.is c.in_ok-file.ensures.opened
    c.close_line_file.ensures.closed c.in-Err.ensures.stays c.settle_opened.ensures.any_moment

pub returns-in-Ok-line-clause-kept : goal.returns-in-Ok-line-clause-kept
returns-in-Ok-line-clause-kept g c =
    kept_there g.R.Paths _ _ g.L.LineFolders g.L.Folder.LineFolder c.args.rt.now c.args.words.now.data_path.now
    c.args.words.now.hash_path.now c.args.folders.now c.open_line_file.new.folders c.args.words.now.table_file c.in-Some.path
    c.in_ok-file.file.folder c.settle_opened.new.file c.new-kept.result c.in-Some.is c.in_ok-file.ensures.opened
    (settled_file g.R.Paths _ _ g.L.LineFolders g.L.Folder.LineFolder c.args.rt.now c.args.words.now.data_path.now
    c.args.words.now.hash_path.now
    (record {
      on = c.new-host.result;
      same = c.new-host.ensures;
      image = c.args.«data».now;
      device = c.args.hash.now;
      data_opened = c.requires.«data»;
      hash_opened = c.requires.hash;
    })
    c.in_ok-file.file.folder c.settle_opened.new.file.folder c.settle_opened.ensures.untouched c.in-Ok.ensures.no_pull
    c.in-Ok.ensures.settled c.in-Ok.ensures.durable c.settle_opened.ensures.any_moment)
    c.new-kept.ensures.file c.new-kept.ensures.data_path c.new-kept.ensures.hash_path

pub returns-in-Err-line-clause-left : goal.returns-in-Err-line-clause-left
returns-in-Err-line-clause-left g c =
    left_settled g.R.Paths _ _ g.L.LineFolders g.L.Folder.LineFolder c.args.rt.now c.args.words.now.data_path.now
    c.args.words.now.hash_path.now c.args.folders.now c.open_line_file.new.folders c.close_line_file-in-Err-line.new.folders
    c.args.words.now.table_file c.in-Some.path c.in_ok-file.file.folder c.settle_opened.new.file.folder c.into.result c.in-Some.is
    c.in_ok-file.ensures.opened c.close_line_file-in-Err-line.ensures.closed
    (settled_file g.R.Paths _ _ g.L.LineFolders g.L.Folder.LineFolder c.args.rt.now c.args.words.now.data_path.now
    c.args.words.now.hash_path.now
    (record {
      on = c.new-host.result;
      same = c.new-host.ensures;
      image = c.args.«data».now;
      device = c.args.hash.now;
      data_opened = c.requires.«data»;
      hash_opened = c.requires.hash;
    })
    c.in_ok-file.file.folder c.settle_opened.new.file.folder c.settle_opened.ensures.untouched c.in-Ok.ensures.no_pull
    c.in-Ok.ensures.settled c.in-Ok.ensures.durable c.settle_opened.ensures.any_moment)
