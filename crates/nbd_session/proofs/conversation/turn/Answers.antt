use Rattle.std.proofs.Common.{◌++◌, List, ℕ, take, [], sym, ap, ◌∙◌, subst, append-nil}
use Rattle.nbd_session.specs.declared.phase.Phase.{Phase}
use Rattle.nbd_session.specs.declared.inbox.Progress.{Progress}
use Rattle.nbd_session.specs.Talk.{hear}
use Rattle.nbd_session.specs.Conversation.{Answered, Stands, message_of}
use Rattle.nbd_session.specs.Answers.{answer, next_phase}
use Rattle.nbd_session.specs.Inbox.{Progressed}
use Rattle.nbd_session.proofs.Moving.{stands_partial, stands_halt, stands_whole}
use Rattle.nbd_session.proofs.conversation.turn.Goals as goal

pub returns-in-Partial-clause-moves : goal.returns-in-Partial-clause-moves
returns-in-Partial-clause-moves g c = (
  [],
  sym (append-nil c.args.out.now.items),
  λ u w.
      let bytes = u ++ take c.in_ok-taken.taken c.args.piece.now in
      let P : Progress → Type 0 = λ p. Progressed c.take.new.self p bytes in
      let m = subst P c.in-Partial.is (c.in_ok-taken.ensures.moved u w) in
      let Q : Phase → Type 0 = λ p. Stands (g.E.Export.facts c.args.export.now) (g.E.Export.facts c.args.export.now)
      (hear c.args.offer.now p bytes) c.take.new.self [] in
      subst Q c.in_ok-taken.ensures.phase (stands_partial _ c.args.offer.now c.take.new.self.phase bytes c.take.new.self
      (λ i. c.take.new.self.phase) m.partial m),
)

pub returns-in_ok-next-in-Whole-clause-moves : goal.returns-in_ok-next-in-Whole-clause-moves
returns-in_ok-next-in-Whole-clause-moves g c =
    let a = c.in_ok-next-in-Whole.ensures.ok in (
      a.0,
      a.1,
      λ u w.
          let bytes = u ++ take c.in_ok-taken.taken c.args.piece.now in
          let offer = c.args.offer.now in
          let P : Progress → Type 0 = λ p. Progressed c.take.new.self p bytes in
          let m = subst P c.in-Whole.is (c.in_ok-taken.ensures.moved u w) in
          let Q : Phase → Type 0 = λ p. Stands (g.E.Export.facts c.args.export.now) (g.E.Export.facts c.respond.new.export)
          (hear offer p bytes) c.begin.new.self a.0 in
          let R : List ℕ → Type 0 = λ held. Answered (g.E.Export.facts c.args.export.now) (g.E.Export.facts c.respond.new.export)
          (answer offer c.take.new.self.phase (message_of c.take.new.self.phase held)) a.0 in
          subst Q c.in_ok-taken.ensures.phase (stands_whole (g.E.Export.facts c.args.export.now)
          (g.E.Export.facts c.respond.new.export) c.in_ok-next-in-Whole.ensures.keeps offer c.take.new.self.phase bytes
          c.take.new.self.held.items c.begin.new.self a.0 m
          (c.begin.ensures.phase ∙ c.in_ok-next-in-Whole.ensures.phase
          ∙ ap (λ held. next_phase offer c.take.new.self.phase (message_of c.take.new.self.phase held)) c.deref.ensures.value)
          c.begin.ensures.waits (subst R c.deref.ensures.value a.2)),
    )

pub returns-in-Halt-clause-moves : goal.returns-in-Halt-clause-moves
returns-in-Halt-clause-moves g c = (
  [],
  sym (append-nil c.args.out.now.items),
  λ u w.
      let bytes = u ++ take c.in_ok-taken.taken c.args.piece.now in
      let P : Progress → Type 0 = λ p. Progressed c.take.new.self p bytes in
      let m = subst P c.in-Halt.is (c.in_ok-taken.ensures.moved u w) in
      let Q : Phase → Type 0 = λ p. Stands (g.E.Export.facts c.args.export.now) (g.E.Export.facts c.args.export.now)
      (hear c.args.offer.now p bytes) c.begin-in-Halt.new.self [] in
      subst Q c.in_ok-taken.ensures.phase (stands_halt _ c.args.offer.now c.take.new.self.phase bytes c.begin-in-Halt.new.self
      c.begin-in-Halt.ensures.phase m c.begin-in-Halt.ensures.waits),
)
