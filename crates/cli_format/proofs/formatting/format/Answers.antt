use Rattle.std.proofs.Common.{rules, ◌≡◌, Some, ap, sym, subst, ◌∙◌}
use Rattle.std.specs.Io.KnownBytes.{Appends}
use Rattle.verity_digest.specs.Hash.{hashing}
use Rattle.verity_superblock.specs.Line.{canonical}
use Rattle.cli_faults.specs.Faults.{line}
use Rattle.cli_format.specs.Formatting.{line_made}
use Rattle.cli_format.specs.Made.{device_of}
use Rattle.cli_format.proofs.Formatted.{formatted, moved}
use Rattle.cli_format.proofs.formatting.format.Goals as goal

pub returns-clause-printed : goal.returns-clause-printed
returns-clause-printed g c =
    let words = c.args.words.now in
    let shape = c.in_ok-shape.shape in
    let made = c.in_ok-made.made in
    let salt = c.deref-2.result.now in
    let table = line_made words shape made salt in
    let line_is = c.in_ok-line.ensures.text in
    let same : c.deref.result.now ≡ salt = c.deref.ensures.value ∙ sym c.deref-2.ensures.value in
    let printed : Appends (g.W.Write.contents c.args.output.now) (g.W.Write.contents c.writeln.new.self) (line (canonical table)) =
    subst (λ text. Appends (g.W.Write.contents c.args.output.now) (g.W.Write.contents c.writeln.new.self) (line text)) line_is.1
    (search rules) in
    formatted _ _ _ words shape made salt _ _ c.in_ok-shape.ensures.asked
    (c.in_ok-bytes.ensures.value ∙ ap Some (sym c.deref-2.ensures.value)) c.in_ok-made.ensures.start line_is.0 printed
    (moved _ _ _ _ _ _ _ _ _ _ _ _ _ (λ s there. there) (λ s s' left. left)
    (ap (λ x. hashing (record { algorithm = shape.algorithm; salt = x }) shape.hash_block_size) same) (ap (device_of shape) same)
    (λ i. shape.data_block_size) c.in_ok-made.ensures.built)
