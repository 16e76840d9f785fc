use Rattle.std.proofs.Common.{rules, ◌≡◌, ℕ, subst}
use Rattle.cli_edit.specs.Printed.{answers_of, answers_to}
use Rattle.cli_edit.specs.Keeping.{AreKeptAnswers}
use Rattle.cli_edit.proofs.Answering.{Answering, none_answered, more_refused, more_done, all_answered}
use Rattle.cli_edit.proofs.Cutting.{answers_left, of_first}
use Rattle.cli_edit.proofs.script.run_script.Goals as goal

pub lines-preserved-in-Some-2 : goal.lines-preserved-in-Some-2
lines-preserved-in-Some-2 g c =
    let text = c.first_line.result.0.now in
    let on = c.args.devices in
    let told : AreKeptAnswers g.C.Commits.holds c.lines.commits c.run_line-after.new.commits on (g.W.Write.contents c.lines.output)
    (g.W.Write.contents c.run_line-after.new.output) (answers_to text) 1 = search rules in
    let left = of_first c.lines.rest c.first_line.result.1 c.in-Some.bytes text c.in-Some.is c.first_line.ensures.whole
    c.first_line.ensures.split in (
      more_refused _ _ _ _ _ _ _ _ _ _ _ _ _ c.lines.invariant.0 left told,
      g.met.C.Commits.keeps_on _ _ _ c.lines.invariant.1 c.run_line-after.ensures.lasting,
    )

pub lines-preserved : goal.lines-preserved
lines-preserved g c =
    let text = c.first_line.result.0.now in
    let on = c.args.devices in
    let told : AreKeptAnswers g.C.Commits.holds c.lines.commits c.run_line-after.new.commits on (g.W.Write.contents c.lines.output)
    (g.W.Write.contents c.run_line-after.new.output) (answers_to text) 0 = search rules in
    let left = of_first c.lines.rest c.first_line.result.1 c.in-Some.bytes text c.in-Some.is c.first_line.ensures.whole
    c.first_line.ensures.split in (
      more_done _ _ _ _ _ _ _ _ _ _ _ _ _ c.lines.invariant.0 left told,
      g.met.C.Commits.keeps_on _ _ _ c.lines.invariant.1 c.run_line-after.ensures.lasting,
    )

pub lines-init : goal.lines-init
lines-init g c = (none_answered _ _ _ _ _, g.met.C.Commits.keeps_itself _)

pub returns-clause-kept : goal.returns-clause-kept
returns-clause-kept g c =
    let at_end : answers_left c.lines.rest ≡ 0 = search rules in
    let P : ℕ → Type 0 = λ (left : ℕ). Answering g.C.Commits.holds c.args.commits.now c.lines.commits c.args.devices
    (g.W.Write.contents c.args.output.now) (g.W.Write.contents c.lines.output) (answers_of c.args.script.bytes.now) left
    c.lines.status in
    all_answered _ _ _ _ _ _ _ _ (subst P at_end c.lines.invariant.0)
