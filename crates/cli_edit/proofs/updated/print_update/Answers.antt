use Rattle.std.proofs.KnownBytes.{Appends-trans}
use Rattle.cli_edit.proofs.updated.print_update.Goals as goal

pub returns-clause-printed : goal.returns-clause-printed
returns-clause-printed g c =
    Appends-trans _ _ _ _ _ c.in_ok-writeln.ensures.bytes (rw c.in_ok-line.ensures.text at c.in_ok-writeln-2.ensures.bytes)
