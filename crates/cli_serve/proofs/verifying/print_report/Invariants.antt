use Rattle.std.proofs.Common.{◌≡◌, take}
use Rattle.std.specs.List.{flat_map}
use Rattle.std.specs.Io.KnownBytes.{Appends}
use Rattle.cli_serve.specs.Printed.{place_line}
use Rattle.cli_serve.proofs.verifying.print_report.Given as goal

abbrev pub invariant-loop-place : goal.invariant-loop-place
invariant-loop-place g l = record {
  items : l.place-items ≡ l.fn.report.faults;
  printed : Appends (g.W.Write.contents l.fn.output) (g.W.Write.contents l.output) (flat_map place_line (take l.place-index l.place-items));
}
