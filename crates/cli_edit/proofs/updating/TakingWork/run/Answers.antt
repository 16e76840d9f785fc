use Rattle.cli_edit.proofs.Leaving.{updated_kept}
use Rattle.cli_edit.proofs.updating.TakingWork.run.Goals as goal

pub returns-clause-kept : goal.returns-clause-kept
returns-clause-kept g c =
    updated_kept g.C.Commits.holds c.args.commits.now c.commit-editor.new.commits c.args.devices (g.W.Write.contents c.args.output.now)
    (g.W.Write.contents c.print_update.new.output) c.in_ok-changed.changed c.superblock-superblock.result.now
    (g.V.Edits.volume c.commit-editor.result.0) c.commit-editor.result.1 c.in_ok-committed.committed c.in_ok-committed.was
    c.commit-editor.ensures.held c.superblock-superblock.ensures c.in_ok-print_update.ensures.printed
