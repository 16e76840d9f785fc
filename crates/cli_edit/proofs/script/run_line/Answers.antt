use Rattle.std.proofs.Common.{rules, ◌≡◌, ℕ, subst, sym}
use Rattle.cli_volume.specs.Kept.{IsLeft}
use Rattle.cli_edit.specs.Keeping.{AreKeptAnswers, left_by}
use Rattle.cli_edit.specs.Printed.{answers_to, told_status}
use Rattle.cli_edit.proofs.Answering.{bad_kept, none_kept, told_kept}
use Rattle.cli_edit.proofs.script.run_line.Goals as goal

pub returns-then-is_empty-clause-kept : goal.returns-then-is_empty-clause-kept
returns-then-is_empty-clause-kept g c =
    let none : answers_to c.args.text.now ≡ 0 = search rules in
    let out = g.W.Write.contents c.args.output.now in
    let P : ℕ → Type 0 = λ (n : ℕ). AreKeptAnswers g.C.Commits.holds c.args.commits.now c.args.commits.now c.args.devices out out n 0 in
    subst P (sym none) (none_kept g.C.Commits.holds c.args.commits.now c.args.devices out)

pub returns-in_default-clause-kept : goal.returns-in_default-clause-kept
returns-in_default-clause-kept g c =
    let one : answers_to c.args.text.now ≡ 1 = search rules in
    bad_kept g.C.Commits.holds c.args.commits.now c.args.devices _ _ _ told_status c.print_bad.result one
    (c.print_bad.ensures.printed c.args.devices)

pub returns-in-Ok-clause-kept : goal.returns-in-Ok-clause-kept
returns-in-Ok-clause-kept g c =
    let one : answers_to c.args.text.now ≡ 1 = search rules in
    let volume = g.V.Edits.volume c.reply_to-editor.result.0 in
    let left : IsLeft g.C.Commits.holds c.args.commits.now c.reply_to-editor.new.commits (left_by volume c.in-Ok.answer) = search rules in
    told_kept g.C.Commits.holds c.args.commits.now _ c.args.devices _ _ volume c.in-Ok.answer _ told_status
    c.print_answer-told.result one left c.print_answer-told.ensures.printed
