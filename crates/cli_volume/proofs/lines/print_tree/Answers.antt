use Rattle.std.proofs.Common.{◌≡◌, ◌++◌, ℕ, codes, arith, subst}
use Rattle.std.specs.Fmt.{decimal}
use Rattle.std.specs.Io.KnownBytes.{Appends}
use Rattle.verity_geometry.specs.Geometry.{levels_of}
use Rattle.cli_volume.specs.Lines.{named_line, level_lines}
use Rattle.cli_volume.proofs.Printing.{behind}
use Rattle.cli_volume.proofs.lines.print_tree.Goals as goal

pub returns-clause-printed : goal.returns-clause-printed
returns-clause-printed g c =
    let IsPrinted : ℕ → ℕ → Type 0 = λ levels printed. Appends (g.W.Write.contents c.args.output.now) (g.W.Write.contents c.levels.output)
    (named_line (codes "levels") (decimal levels) ++ level_lines c.args.geometry.now c.args.start printed) in
    let all : c.levels.printed ≡ levels_of c.args.geometry.now =
    omega (arith, c.levels-test.false, c.levels.auto.printed-end, c.levels.invariant.levels) in
    let printed = subst (λ n. IsPrinted (levels_of c.args.geometry.now) n) all
    (subst (λ n. IsPrinted n c.levels.printed) c.levels.invariant.levels c.levels.invariant.printed) in
    behind c.print_number-2.result _ _ _ _ _ printed (rw c.total.ensures.value at c.print_number-2.ensures.printed)
