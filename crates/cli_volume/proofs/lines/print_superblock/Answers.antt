use Rattle.std.proofs.Common.{rules, OnOk}
use Rattle.std.specs.Io.KnownBytes.{Appends}
use Rattle.verity_edit.specs.Planning.{volume_shape}
use Rattle.cli_volume.specs.Lines.{tree_lines}
use Rattle.cli_volume.proofs.Printing.{behind}
use Rattle.cli_volume.proofs.lines.print_superblock.Goals as goal

pub returns-clause-printed : goal.returns-clause-printed
returns-clause-printed g c =
    let v = c.args.superblock.now in
    let tree : OnOk c.print_tree.result (Appends (g.W.Write.contents c.print_sizes.new.output)
    (g.W.Write.contents c.print_tree.new.output) (tree_lines (volume_shape v.params v.data_blocks) c.args.start)) = search rules in
    behind c.print_tree.result _ _ _ _ _ c.in_ok-print_kind.ensures.printed (behind _ _ _ _ _ _ c.in_ok-print_sizes.ensures.printed tree)
