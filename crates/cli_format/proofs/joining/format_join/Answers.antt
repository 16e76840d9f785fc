use Rattle.std.proofs.Common.{rules, ◌≡◌, Some, refl, ap, sym, subst, ◌∙◌}
use Rattle.std.specs.Io.KnownBytes.{Appends}
use Rattle.std.specs.Prelude.{Contains}
use Rattle.verity_superblock.specs.Line.{canonical}
use Rattle.verity_slice.specs.declared.run.Run.{Run}
use Rattle.cli_faults.specs.Faults.{line}
use Rattle.cli_format.specs.Asked.{Tells}
use Rattle.cli_format.specs.Formatting.{line_made}
use Rattle.cli_format.specs.Sliced.{asked_for}
use Rattle.cli_format.proofs.Moving.{join_moved}
use Rattle.cli_format.proofs.Told.{told_of}
use Rattle.cli_format.proofs.joining.format_join.Goals as goal

pub returns : goal.returns
returns g c =
    let words = c.args.words.now in
    let shape = c.in_ok-shape.shape in
    let made = c.in_ok-made.made in
    let salt = c.deref-3.result.now in
    let runs = c.in_ok-runs.runs.items in
    let table = line_made words shape made salt in
    let line_is = c.in_ok-line.ensures.text in
    let same : c.deref-2.result.now ≡ salt = c.deref-2.ensures.value ∙ sym c.deref-3.ensures.value in
    let printed : Appends (g.W.Write.contents c.args.output.now) (g.W.Write.contents c.writeln.new.self) (line (canonical table)) =
    subst (λ text. Appends (g.W.Write.contents c.args.output.now) (g.W.Write.contents c.writeln.new.self) (line text)) line_is.1
    (search rules) in
    record {
      printed = record {
        shape = shape;
        salt = salt;
        runs = runs;
        made = made;
        shaped = c.in_ok-shape.ensures.asked;
        salted = c.in_ok-bytes.ensures.value ∙ ap Some (sym c.deref-3.ensures.value);
        told = told_of _ c.in_ok-text.text.items runs c.in_ok-text.ensures.read
            (subst (λ text. (run : Run) → Contains runs run → Tells text run) c.deref.ensures.value c.in_ok-runs.ensures);
        joined = join_moved g.S.Store.BlockStore _ _ _ _ _ _ _ _ _ _ _ (λ s there. there) (λ s s' left. left)
            (ap (asked_for shape) same) refl c.in_ok-made.ensures.joined;
        start = c.in_ok-made.ensures.start;
        profile = line_is.0;
        printed = printed;
      };
    }
