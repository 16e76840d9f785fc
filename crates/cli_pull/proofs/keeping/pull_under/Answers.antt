use Rattle.std.proofs.Common.{◌≡◌, ◌∙◌, ⊎_elim, inl, inr, refl, ap, subst, List, ℕ}
use Rattle.std.specs.Io.KnownBytes.{Appends}
use Rattle.verity_superblock.specs.Line.{IsTableLine, canonical}
use Rattle.cli_pull.specs.Keeping.{IsUnderWay}
use Rattle.cli_pull.specs.Printed.{pulled_text}
use Rattle.cli_pull.specs.Words.{own_line}
use Rattle.cli_pull.proofs.KeepingLemmas.{at_rest, untouched, under_way, taking, taken}
use Rattle.cli_pull.proofs.Results.{on_err, on_ok}
use Rattle.cli_pull.proofs.keeping.pull_under.Goals as goal

pub returns-in_err-text-clause-cut : goal.returns-in_err-text-clause-cut
returns-in_err-text-clause-cut g c =
    let old = c.args.file.now.folder in
    on_err c.from_residual-in_err-text.result (inl (refl, at_rest g.F.LineFolder old (g.met.F.LineFolder.only_now old)))

pub returns-in_err-check_one_line-clause-cut : goal.returns-in_err-check_one_line-clause-cut
returns-in_err-check_one_line-clause-cut g c =
    let old = c.args.file.now.folder in
    on_err c.from_residual-in_err-check_one_line.result (inl (refl, at_rest g.F.LineFolder old (g.met.F.LineFolder.only_now old)))

pub returns-in_err-look_first-clause-cut : goal.returns-in_err-look_first-clause-cut
returns-in_err-look_first-clause-cut g c =
    let old = c.args.file.now.folder in
    on_err c.from_residual-in_err-look_first.result (inl (refl, at_rest g.F.LineFolder old (g.met.F.LineFolder.only_now old)))

pub returns-in_err-begin_pull-clause-cut : goal.returns-in_err-begin_pull-clause-cut
returns-in_err-begin_pull-clause-cut g c = on_err c.from_residual-in_err-begin_pull.result
    (inl (refl, untouched g.F.LineFolder c.args.file.now.folder c.begin_pull.new.file.folder c.begin_pull.ensures.any_moment))

pub returns-in_err-counts-clause-cut : goal.returns-in_err-counts-clause-cut
returns-in_err-counts-clause-cut g c =
    let old = c.args.file.now.folder in
    let mid = c.begin_pull.new.file.folder in
    let way : IsUnderWay g.F.LineFolder old mid =
    under_way g.F.LineFolder old mid c.in_ok-begin_pull.ensures.begun c.in_ok-begin_pull.ensures.durable c.begin_pull.ensures.any_moment in
    on_err c.from_residual-in_err-counts.result (inr (inl way))

pub returns-in_err-check_file-clause-cut : goal.returns-in_err-check_file-clause-cut
returns-in_err-check_file-clause-cut g c =
    let old = c.args.file.now.folder in
    let mid = c.begin_pull.new.file.folder in
    let way : IsUnderWay g.F.LineFolder old mid =
    under_way g.F.LineFolder old mid c.in_ok-begin_pull.ensures.begun c.in_ok-begin_pull.ensures.durable c.begin_pull.ensures.any_moment in
    on_err c.from_residual-in_err-check_file.result (inr (inl way))

pub returns-in_err-keep_line-clause-cut : goal.returns-in_err-keep_line-clause-cut
returns-in_err-keep_line-clause-cut g c =
    let words = c.args.words.now in
    let asked = c.in_ok-read.read.0 in
    let old = c.args.file.now.folder in
    let mid = c.begin_pull.new.file.folder in
    let way : IsUnderWay g.F.LineFolder old mid =
    under_way g.F.LineFolder old mid c.in_ok-begin_pull.ensures.begun c.in_ok-begin_pull.ensures.durable c.begin_pull.ensures.any_moment in
    let same : c.table-2.result.now ≡ own_line words asked =
    c.table-2.ensures.value ∙ (c.in_ok-counts.ensures.same ∙ c.in_ok-read.ensures.line) in
    on_err c.from_residual-in_err-keep_line.result (inr (inr (record {
      asked = asked;
      counts = c.in_ok-counts.counts;
      is_asked = c.in_ok-read.ensures.asked;
      made = c.in_ok-counts.ensures.made;
      kept = inr (mid, way, ⊎_elim (λ stays. inl stays) (λ failed. inr failed.1) c.in_err-keep_line.ensures.stays);
      any_moment = taking g.F.LineFolder old mid c.keep_line.new.file.folder c.table-2.result.now (own_line words asked) same way
          c.keep_line.ensures.any_moment;
    })))

pub returns-clause-pulled : goal.returns-clause-pulled
returns-clause-pulled g c =
    let words = c.args.words.now in
    let asked = c.in_ok-read.read.0 in
    let old = c.args.file.now.folder in
    let mid = c.begin_pull.new.file.folder in
    let line : c.in_ok-read.read.1 ≡ own_line words asked = c.in_ok-read.ensures.line in
    let way : IsUnderWay g.F.LineFolder old mid =
    under_way g.F.LineFolder old mid c.in_ok-begin_pull.ensures.begun c.in_ok-begin_pull.ensures.durable c.begin_pull.ensures.any_moment in
    let same : c.table-2.result.now ≡ own_line words asked =
    c.table-2.ensures.value ∙ (c.in_ok-counts.ensures.same ∙ c.in_ok-read.ensures.line) in
    let new = c.keep_line.new.file.folder in
    let counts = c.in_ok-counts.counts in
    let made = c.in_ok-counts.ensures.made in
    let text : c.deref-2.result.now ≡ canonical (own_line words asked) =
    c.deref-2.ensures ∙ (c.in_ok-text.ensures.text ∙ (ap canonical c.table.ensures.value ∙ ap canonical line)) in
    on_ok c.print_pulled.result (λ printed. record {
      there = record {
        ready = made.0;
        is_ready = made.1;
        asked = asked;
        counts = counts;
        is_asked = c.in_ok-read.ensures.asked;
        profile = subst IsTableLine line c.in_ok-read.ensures.profile;
        filled = made.2;
        printed = subst (λ (bytes : List ℕ). Appends (g.W.Write.contents c.args.output.now) (g.W.Write.contents c.print_pulled.new.output)
            (pulled_text counts bytes)) text printed;
      };
      kept = taken g.F.LineFolder old new c.table-2.result.now (own_line words asked) same c.in_ok-keep_line.ensures.kept
          c.in_ok-keep_line.ensures.durable;
      any_moment = taking g.F.LineFolder old mid new c.table-2.result.now (own_line words asked) same way c.keep_line.ensures.any_moment;
      apart = c.in_ok-check_file.ensures.apart;
    }) c.print_pulled.ensures.printed

pub returns-clause-cut : goal.returns-clause-cut
returns-clause-cut g c =
    let words = c.args.words.now in
    let asked = c.in_ok-read.read.0 in
    let old = c.args.file.now.folder in
    let mid = c.begin_pull.new.file.folder in
    let way : IsUnderWay g.F.LineFolder old mid =
    under_way g.F.LineFolder old mid c.in_ok-begin_pull.ensures.begun c.in_ok-begin_pull.ensures.durable c.begin_pull.ensures.any_moment in
    let same : c.table-2.result.now ≡ own_line words asked =
    c.table-2.ensures.value ∙ (c.in_ok-counts.ensures.same ∙ c.in_ok-read.ensures.line) in
    let new = c.keep_line.new.file.folder in
    on_err c.print_pulled.result (inr (inr (record {
      asked = asked;
      counts = c.in_ok-counts.counts;
      is_asked = c.in_ok-read.ensures.asked;
      made = c.in_ok-counts.ensures.made;
      kept = inl (taken g.F.LineFolder old new c.table-2.result.now (own_line words asked) same c.in_ok-keep_line.ensures.kept
          c.in_ok-keep_line.ensures.durable);
      any_moment = taking g.F.LineFolder old mid new c.table-2.result.now (own_line words asked) same way c.keep_line.ensures.any_moment;
    })))
