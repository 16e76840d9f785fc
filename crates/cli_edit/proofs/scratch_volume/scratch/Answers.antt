use Rattle.cli_edit.proofs.Scratching.{behind_its_line}
use Rattle.cli_edit.proofs.scratch_volume.scratch.Goals as goal

pub returns-clause-done : goal.returns-clause-done
returns-clause-done g c =
    behind_its_line (g.I.Read.remaining c.args.input.now) _ c.in_ok-editor.editor.volume _ _ _ _
    c.in_ok-editor.ensures.zeros c.in_ok-print_line.ensures.printed _ c.answer_all.ensures.done
