use Rattle.cli_edit.proofs.Doing.{done_as_before, kept_as_before}
use Rattle.cli_edit.proofs.over.do_over.Goals as goal

pub returns-in-Some-path-clause-done : goal.returns-in-Some-path-clause-done
returns-in-Some-path-clause-done g c =
    done_as_before g.T.Work.prints c.args.work.now _ (g.R.Paths.text c.args.rt.now) c.args.words.now.data_path.now
    c.args.words.now.hash_path.now (g.W.Write.contents c.args.output.now) (g.W.Write.contents c.do_through.new.output)
    c.do_through.result c.in_ok-begin.ensures.prints c.do_through.ensures.done

pub returns-after-is_none-clause-done : goal.returns-after-is_none-clause-done
returns-after-is_none-clause-done g c =
    done_as_before g.T.Work.prints c.args.work.now _ (g.R.Paths.text c.args.rt.now) c.args.words.now.data_path.now
    c.args.words.now.hash_path.now (g.W.Write.contents c.args.output.now) (g.W.Write.contents c.do_without.new.output)
    c.do_without.result c.in_ok-begin.ensures.prints c.do_without.ensures.done

pub returns-in-Some-path-clause-kept : goal.returns-in-Some-path-clause-kept
returns-in-Some-path-clause-kept g c =
    kept_as_before g.R.Paths _ _ g.L.LineFolders g.L.Folder.LineFolder c.args.rt.now c.args.words.now.data_path.now
    c.args.words.now.hash_path.now c.args.folders.now c.do_through.new.folders c.args.words.now.table_file g.T.Work.leaves c.args.work.now _
    (g.R.Paths.text c.args.rt.now) (g.W.Write.contents c.args.output.now) (g.W.Write.contents c.do_through.new.output)
    c.do_through.result c.in_ok-begin.ensures.leaves c.do_through.ensures.kept

pub returns-after-is_none-clause-kept : goal.returns-after-is_none-clause-kept
returns-after-is_none-clause-kept g c =
    kept_as_before g.R.Paths _ _ g.L.LineFolders g.L.Folder.LineFolder c.args.rt.now c.args.words.now.data_path.now
    c.args.words.now.hash_path.now c.args.folders.now c.do_without.new.folders c.args.words.now.table_file g.T.Work.leaves c.args.work.now _
    (g.R.Paths.text c.args.rt.now) (g.W.Write.contents c.args.output.now) (g.W.Write.contents c.do_without.new.output)
    c.do_without.result c.in_ok-begin.ensures.leaves c.do_without.ensures.kept
