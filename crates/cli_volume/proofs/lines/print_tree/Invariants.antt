use Rattle.std.proofs.Common.{◌≡◌, ◌++◌, codes}
use Rattle.std.specs.Fmt.{decimal}
use Rattle.std.specs.Io.KnownBytes.{Appends}
use Rattle.verity_geometry.specs.Geometry.{levels_of}
use Rattle.cli_volume.specs.Lines.{named_line, level_lines}
use Rattle.cli_volume.proofs.lines.print_tree.Given as goal

abbrev pub invariant-levels : goal.invariant-levels
invariant-levels g l = record {
  levels : l.levels ≡ levels_of l.fn.geometry;
  printed : Appends (g.W.Write.contents l.fn.output) (g.W.Write.contents l.output)
      (named_line (codes "levels") (decimal l.levels) ++ level_lines l.fn.geometry l.fn.start l.printed);
}
