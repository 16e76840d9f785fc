use Rattle.std.proofs.Common.{List, ℕ, take, drop, [], sym, subst, arith, append-nil, take-append-drop}
use Rattle.std.proofs.lemmas.Grind.{common_steps}
use Rattle.nbd_session.specs.Conversation.{AppendsMove}
use Rattle.nbd_session.proofs.Moving.{Keeps-refl, Keeps-trans, appends_on, moves_none, moves_ended, next_bytes}
use Rattle.nbd_session.proofs.conversation.turns.Goals as goal

pub loop-done-init : goal.loop-done-init
loop-done-init g c = record {
  within = omega arith;
  keeps = Keeps-refl (g.E.Export.facts c.args.export.now);
  later = g.met.E.Export.later_same c.args.export.now;
  form = c.requires.form;
  moves = ([], sym (append-nil c.args.out.now.items), moves_none (g.E.Export.facts c.args.export.now) c.args.offer.now c.args.inbox.now);
}

pub returns-in-Ended-clause-moves : goal.returns-in-Ended-clause-moves
returns-in-Ended-clause-moves g c =
    let i = c.loop-done.invariant in
    let now = g.E.Export.facts c.loop-done.export in
    let offer = c.args.offer.now in
    let P : List ℕ → Type 0 = λ x. AppendsMove (g.E.Export.facts c.args.export.now) now offer c.args.inbox.now c.loop-done.inbox x
    c.args.out.now.items c.loop-done.out.items in
    subst P (take-append-drop c.loop-done.done c.args.piece.now)
    (appends_on (g.E.Export.facts c.args.export.now) now now offer c.args.inbox.now c.loop-done.inbox c.loop-done.inbox
    (take c.loop-done.done c.args.piece.now) (drop c.loop-done.done c.args.piece.now)
    c.args.out.now.items c.loop-done.out.items c.loop-done.out.items i.keeps (Keeps-refl now) i.moves (
      [],
      sym (append-nil c.loop-done.out.items),
      moves_ended now offer c.loop-done.inbox (drop c.loop-done.done c.args.piece.now)
          c.in-Ended.is,
    ))

pub loop-done-preserved : goal.loop-done-preserved
loop-done-preserved g c =
    let i = c.loop-done.invariant in
    let e = c.in_ok-done.ensures in
    let first = g.E.Export.facts c.args.export.now in
    let mid = g.E.Export.facts c.loop-done.export in
    let now = g.E.Export.facts c.turn.new.export in
    let offer = c.args.offer.now in
    let P : List ℕ → Type 0 = λ x. AppendsMove first now offer c.args.inbox.now c.turn.new.inbox x c.args.out.now.items
    c.turn.new.out.items in
    record {
      within = grind (arith, common_steps);
      keeps = Keeps-trans first mid now i.keeps e.keeps;
      later = g.met.E.Export.later_on c.args.export.now c.loop-done.export c.turn.new.export i.later e.later;
      form = e.form;
      moves = subst P (next_bytes c.args.piece.now c.loop-done.done c.in_ok-done.field-0)
          (appends_on first mid now offer c.args.inbox.now c.loop-done.inbox c.turn.new.inbox _ _ c.args.out.now.items
          c.loop-done.out.items c.turn.new.out.items i.keeps e.keeps i.moves e.moves);
    }
