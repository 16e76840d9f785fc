use Rattle.cli_edit.proofs.Keeping.{kept_by_commits}
use Rattle.cli_edit.proofs.ways.run_through.Goals as goal

pub returns-clause-kept : goal.returns-clause-kept
returns-clause-kept g c =
    kept_by_commits g.F.LineFolder c.args.commits.now c.run_over.new.commits
    (g.T.Work.leaves c.args.work.now (g.R.Paths.text c.args.rt.now))
    c.rest_of-rest.result.devices c.args.words.now.data_path.now c.args.words.now.hash_path.now c.args.volume.sizes.hash_start_block
    (g.W.Write.contents c.args.output.now) (g.W.Write.contents c.run_over.new.output) c.run_over.result c.requires.paths c.requires.start
    c.rest_of-rest.ensures.«data» c.rest_of-rest.ensures.hash c.rest_of-rest.ensures.start c.run_over.ensures.lasting
    c.run_over.ensures.kept
