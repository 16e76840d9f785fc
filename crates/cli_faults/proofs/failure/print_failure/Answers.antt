use Rattle.std.proofs.Common.{◌≡◌, OnOk, sym, subst}
use Rattle.std.specs.Io.KnownBytes.{Appends}
use Rattle.cli_faults.specs.Faults.{failure_line}
use Rattle.cli_faults.specs.declared.failure.Failure.{Failure}
use Rattle.cli_faults.proofs.failure.print_failure.Goals as goal

pub returns-in-Word-clause-printed : goal.returns-in-Word-clause-printed
returns-in-Word-clause-printed g c =
    subst (λ (failure : Failure). OnOk c.writeln.result
    (Appends (g.W.Write.contents c.args.output.now) (g.W.Write.contents c.writeln.new.self) (failure_line failure)))
    (sym c.in-Word.is) c.writeln.ensures.bytes
