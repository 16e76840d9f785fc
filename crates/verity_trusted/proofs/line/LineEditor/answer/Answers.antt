use Rattle.std.proofs.Common.{◌≡◌, ⊎_elim, inl, inr, sym, ap, ◌∙◌, subst}
use Rattle.std.proofs.lemmas.Result.{IfErr-weaker, on_ok_weaker}
use Rattle.verity_edit.specs.declared.command.Command.{Command}
use Rattle.verity_edit.specs.declared.command.Command.TheVariants.{Write, Grow, Shrink}
use Rattle.verity_edit.specs.declared.command.Reply.{Reply}
use Rattle.verity_edit.specs.Running.{reply_to}
use Rattle.verity_trusted.specs.Line.{IsAnsweredUnder}
use Rattle.verity_trusted.proofs.LineAnswers.{edited_under, discarded_under}
use Rattle.verity_trusted.proofs.line.LineEditor.answer.Goals as goal

pub returns-in-Write : goal.returns-in-Write
returns-in-Write g c =
    let one : Command g.row.C.Denot = Write c.in-Write.n c.as_slice.result.now in
    let is : c.args.command.now ≡ one = c.in-Write.is ∙ ap (λ block. let w : Command g.row.C.Denot = Write c.in-Write.n block in
    w) (sym c.as_slice.ensures) in
    let old = c.args.self in
    let new = c.write-done.new.self in
    subst (λ (r : Reply). IsAnsweredUnder g.D.BlockStore g.H.BlockStore c.args.command.now old new r) (sym c.reply_of.ensures)
    (subst (λ (command : Command g.row.C.Denot). IsAnsweredUnder g.D.BlockStore g.H.BlockStore command old new
    (reply_to c.write-done.result))
    (sym is)
    (edited_under g.D.BlockStore g.H.BlockStore one old new c.write-done.result
    (on_ok_weaker c.write-done.result (λ done image _. done image) c.write-done.ensures.done) c.write-done.ensures.passed
    (IfErr-weaker c.write-done.result _ _ (λ fault why. ⊎_elim (λ rule. inl rule) (λ memory. inr (tt, memory.0, memory.1, memory.2)) why)
    c.write-done.ensures.refused) c.write-done.ensures.unchanged c.write-done.ensures.only c.write-done.ensures.size tt))

pub returns-in-Grow : goal.returns-in-Grow
returns-in-Grow g c =
    let one : Command g.row.C.Denot = Grow c.in-Grow.count in
    let old = c.args.self in
    let new = c.grow-done.new.self in
    subst (λ (r : Reply). IsAnsweredUnder g.D.BlockStore g.H.BlockStore c.args.command.now old new r) (sym c.reply_of-in-Grow.ensures)
    (subst (λ (command : Command g.row.C.Denot). IsAnsweredUnder g.D.BlockStore g.H.BlockStore command old new
    (reply_to c.grow-done.result))
    (sym c.in-Grow.is)
    (edited_under g.D.BlockStore g.H.BlockStore one old new c.grow-done.result
    (on_ok_weaker c.grow-done.result (λ done image _. done image) c.grow-done.ensures.done) c.grow-done.ensures.passed
    (IfErr-weaker c.grow-done.result _ _ (λ fault why. inl why) c.grow-done.ensures.refused) c.grow-done.ensures.unchanged
    c.grow-done.ensures.only c.grow-done.ensures.size tt))

pub returns-in-Shrink : goal.returns-in-Shrink
returns-in-Shrink g c =
    let one : Command g.row.C.Denot = Shrink c.in-Shrink.count in
    let old = c.args.self in
    let new = c.shrink-done.new.self in
    subst (λ (r : Reply). IsAnsweredUnder g.D.BlockStore g.H.BlockStore c.args.command.now old new r) (sym c.reply_of-in-Shrink.ensures)
    (subst (λ (command : Command g.row.C.Denot). IsAnsweredUnder g.D.BlockStore g.H.BlockStore command old new
    (reply_to c.shrink-done.result)) (sym c.in-Shrink.is)
    (edited_under g.D.BlockStore g.H.BlockStore one old new c.shrink-done.result
    (on_ok_weaker c.shrink-done.result (λ done image _. done image) c.shrink-done.ensures.done) c.shrink-done.ensures.passed
    (IfErr-weaker c.shrink-done.result _ _ (λ fault why. inl why) c.shrink-done.ensures.refused) c.shrink-done.ensures.unchanged
    c.shrink-done.ensures.only c.shrink-done.ensures.size tt))

pub returns-in-Discard : goal.returns-in-Discard
returns-in-Discard g c =
    subst (λ (r : Reply). IsAnsweredUnder g.D.BlockStore g.H.BlockStore c.args.command.now c.args.self c.discard-done.new.self r)
    (sym c.reply_of-in-Discard.ensures)
    (discarded_under g.D.BlockStore g.H.BlockStore c.args.command.now c.args.self c.discard-done.new.self c.discard-done.result
    c.in-Discard.is c.discard-done.ensures.done c.discard-done.ensures.ok c.discard-done.ensures.refused c.discard-done.ensures.unchanged)
