use Rattle.std.proofs.Common.{rules, codes, OnOk}
use Rattle.std.specs.Io.KnownBytes.{Appends}
use Rattle.uuid.specs.Text.{hyphenated_text, lower}
use Rattle.verity_digest.specs.Hash.{name_of}
use Rattle.cli_volume.specs.Lines.{named_line}
use Rattle.cli_volume.proofs.Printing.{behind}
use Rattle.cli_volume.proofs.lines.print_kind.Goals as goal

pub returns-clause-printed : goal.returns-clause-printed
returns-clause-printed g c =
    let params = c.args.superblock.now.params in
    let version = c.in_ok-print_text.ensures.printed in
    let hash_type = c.in_ok-print_text-2.ensures.printed in
    let uuid : Appends (g.W.Write.contents c.print_text-2.new.output) (g.W.Write.contents c.print_text-3.new.output)
    (named_line (codes "uuid") (hyphenated_text lower params.uuid)) = search rules in
    let algorithm : OnOk c.print_text-4.result (Appends (g.W.Write.contents c.print_text-3.new.output)
    (g.W.Write.contents c.print_text-4.new.output) (named_line (codes "algorithm") (name_of params.algorithm))) = search rules in
    behind c.print_text-4.result _ _ _ _ _ version (behind _ _ _ _ _ _ hash_type (behind _ _ _ _ _ _ uuid algorithm))
