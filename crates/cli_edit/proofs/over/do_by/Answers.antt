use Rattle.cli_edit.proofs.Keeping.{kept_at, left_at}
use Rattle.cli_edit.proofs.over.do_by.Goals as goal

pub returns-clause-kept : goal.returns-clause-kept
returns-clause-kept g c =
    kept_at g.R.Paths _ _ g.L.LineFolders g.L.Folder.LineFolder c.args.rt.now c.args.words.now.data_path.now
    c.args.words.now.hash_path.now c.args.folders.now c.kept_line.new.folders c.close_file.new.folders c.args.words.now.table_file
    (g.T.Work.leaves c.args.work.now (g.R.Paths.text c.args.rt.now)) (g.W.Write.contents c.args.output.now)
    (g.W.Write.contents c.do_staged-done.new.output) c.in-Ok.found.0 c.new-commits.result.line c.do_staged-done.new.commits.line
    c.end-2.result c.do_staged-done.result c.in-Ok.ensures.kept c.new-commits.ensures.line c.do_staged-done.ensures.lasting c.end-2.ensures
    c.close_file.ensures c.do_staged-done.ensures.kept

pub returns-clause-left : goal.returns-clause-left
returns-clause-left g c =
    left_at g.R.Paths _ _ g.L.LineFolders g.L.Folder.LineFolder c.args.rt.now c.args.words.now.data_path.now
    c.args.words.now.hash_path.now c.args.folders.now c.kept_line.new.folders c.close_file.new.folders c.args.words.now.table_file
    c.in-Ok.found.0 c.new-commits.result.line c.do_staged-done.new.commits.line c.end-2.result c.do_staged-done.result
    c.in-Ok.ensures.kept c.new-commits.ensures.line c.do_staged-done.ensures.lasting c.end-2.ensures c.close_file.ensures
