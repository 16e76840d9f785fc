use Rattle.cli_edit.proofs.Leaving.{edited_kept}
use Rattle.cli_edit.proofs.editing.LinesWork.run.Goals as goal

pub returns-clause-kept : goal.returns-clause-kept
returns-clause-kept g c =
    edited_kept g.C.Commits.holds c.args.commits.now c.run_script.new.commits (g.R.Paths.text c.args.rt.now c.args.self.now.path.now)
    c.in_ok-bytes.bytes.items c.deref.result.now c.args.devices (g.W.Write.contents c.args.output.now)
    (g.W.Write.contents c.run_script.new.output) c.run_script.result c.in_ok-bytes.ensures.read c.deref.ensures.value
    c.run_script.ensures.kept
