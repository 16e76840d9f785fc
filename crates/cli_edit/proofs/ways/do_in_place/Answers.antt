use Rattle.cli_edit.proofs.Doing.{done_as_before}
use Rattle.cli_edit.proofs.ways.do_in_place.Goals as goal

pub returns-clause-done : goal.returns-clause-done
returns-clause-done g c =
    done_as_before g.T.Work.prints c.args.work.now _ (g.R.Paths.text c.args.rt.now) c.args.words.now.data_path.now
    c.args.words.now.hash_path.now (g.W.Write.contents c.args.output.now) (g.W.Write.contents c.run_in_place.new.output)
    c.run_in_place.result c.in_ok-see.ensures.prints c.run_in_place.ensures.done
