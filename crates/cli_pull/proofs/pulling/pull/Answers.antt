use Rattle.std.proofs.Common.{◌≡◌, ◌∙◌, List, ℕ, ap, subst}
use Rattle.verity_superblock.specs.Line.{IsTableLine, canonical}
use Rattle.std.specs.Io.KnownBytes.{Appends}
use Rattle.cli_pull.specs.Printed.{pulled_text}
use Rattle.cli_pull.specs.Words.{own_line}
use Rattle.cli_pull.proofs.Results.{on_ok}
use Rattle.cli_pull.proofs.pulling.pull.Goals as goal

pub returns : goal.returns
returns g c =
    let words = c.args.words.now in
    let asked = c.in_ok-read.read.0 in
    let counts = c.in_ok-counts.counts in
    let made = c.in_ok-counts.ensures.made in
    let line : c.in_ok-read.read.1 ≡ own_line words asked = c.in_ok-read.ensures.line in
    let text : c.deref.result.now ≡ canonical (own_line words asked) =
    c.deref.ensures ∙ (c.in_ok-text.ensures.text ∙ (ap canonical c.table.ensures.value ∙ ap canonical line)) in
    record {
      pulled = on_ok c.print_pulled.result (λ printed. record {
        ready = made.0;
        is_ready = made.1;
        asked = asked;
        counts = counts;
        is_asked = c.in_ok-read.ensures.asked;
        profile = subst IsTableLine line c.in_ok-read.ensures.profile;
        filled = made.2;
        printed = subst (λ (bytes : List ℕ). Appends (g.W.Write.contents c.args.output.now) (g.W.Write.contents c.print_pulled.new.output)
            (pulled_text counts bytes)) text printed;
      }) c.print_pulled.ensures.printed;
    }
