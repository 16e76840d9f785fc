use Rattle.std.proofs.Common.{◌+◌, length, None, Some}
use Rattle.cli_edit.specs.Printed.{answers_of}
use Rattle.cli_edit.proofs.Answering.{Answering}
use Rattle.cli_edit.proofs.Cutting.{answers_left}
use Rattle.cli_edit.proofs.script.run_script.Given as goal

abbrev pub invariant-lines : goal.invariant-lines
invariant-lines g l = (Answering g.C.Commits.holds l.fn.commits l.commits l.fn.devices (g.W.Write.contents l.fn.output)
    (g.W.Write.contents l.output) (answers_of l.fn.script.bytes.now) (answers_left l.rest) l.status)
    × g.C.Commits.keeps l.fn.commits l.commits

abbrev pub decreases-lines : goal.decreases-lines
decreases-lines g l = elim l.rest [ None ↦ 0 | Some bytes ↦ length bytes.now + 1 ]
