use Rattle.cli_edit.proofs.Doing.{done_as_before}
use Rattle.cli_edit.proofs.Keeping.{begun_by_commits, kept_as_begun}
use Rattle.cli_edit.proofs.ways.do_staged.Goals as goal

pub returns-clause-done : goal.returns-clause-done
returns-clause-done g c =
    done_as_before g.T.Work.prints c.args.work.now _ (g.R.Paths.text c.args.rt.now) c.args.words.now.data_path.now
    c.args.words.now.hash_path.now (g.W.Write.contents c.args.output.now) (g.W.Write.contents c.run_through.new.output)
    c.run_through.result c.in_ok-see.ensures.prints c.run_through.ensures.done

pub returns-clause-kept : goal.returns-clause-kept
returns-clause-kept g c =
    kept_as_begun g.F.LineFolder c.in_ok-volume.volume.sizes.hash_start_block c.args.commits.now.line c.note_start.new.self.line
    c.note_start.ensures.line c.args.words.now.data_path.now c.args.words.now.hash_path.now c.run_through.new.commits.line
    g.T.Work.leaves c.args.work.now _ (g.R.Paths.text c.args.rt.now) (g.W.Write.contents c.args.output.now)
    (g.W.Write.contents c.run_through.new.output) c.run_through.result c.in_ok-see.ensures.leaves c.run_through.ensures.kept

pub returns-clause-lasting : goal.returns-clause-lasting
returns-clause-lasting g c =
    begun_by_commits g.F.LineFolder c.in_ok-volume.volume.sizes.hash_start_block c.args.commits.now.line c.note_start.new.self.line
    c.note_start.ensures.line c.args.words.now.data_path.now c.args.words.now.hash_path.now c.run_through.new.commits.line
    c.requires.paths c.run_through.ensures.lasting
