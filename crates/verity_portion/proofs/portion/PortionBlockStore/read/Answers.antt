use Rattle.std.proofs.Common.{◌+◌, List, subst, sym, ◌∙◌, arith}
use Rattle.std.proofs.lemmas.Bool.{false≢true}
use Rattle.verity_slice.specs.declared.run.Run.{Run}
use Rattle.verity_portion.specs.Portion.{Portioned, AreShown}
use Rattle.verity_portion.proofs.PortionLemmas.{portion_blank, portion_gave, portion_failed, shown_one, one_shown}
use Rattle.verity_portion.proofs.portion.PortionBlockStore.read.Goals as goal

pub invariant_of-self : goal.invariant_of-self
invariant_of-self g c =
    let i = c.self.inside in
    let p : Portioned g.row.S.Denot =
    record { store = i.store; runs = i.runs.items; given = i.given.blocks; asked = i.asked.steps; past = i.past.rows } in
    portion_blank g.S.BlockStore p c.self.invariant c.note.new.self.blocks c.step.new.self.steps c.args.n c.fill.new.self
    (λ shows. false≢true (sym c.if-not-shows.true ∙ c.shows.ensures.1 (subst (λ (runs : List Run). AreShown runs c.args.n (c.args.n + 1))
    (sym c.deref.ensures.value) (one_shown i.runs.items c.args.n shows)))) c.note.ensures

pub invariant_of-self-in-Ok : goal.invariant_of-self-in-Ok
invariant_of-self-in-Ok g c =
    let i = c.self.inside in
    let e = c.in-Ok.ensures in
    let p : Portioned g.row.S.Denot =
    record { store = i.store; runs = i.runs.items; given = i.given.blocks; asked = i.asked.steps; past = i.past.rows } in
    portion_gave g.S.BlockStore p c.read.new.self c.self.invariant e.tells e.fixed c.note-in-Ok.new.self.blocks c.step.new.self.steps
    c.args.n c.read.new.out
    (shown_one i.runs.items c.args.n (subst (λ (runs : List Run). AreShown runs c.args.n (c.args.n + 1)) c.deref.ensures.value
    (c.shows.ensures.0 c.if-not-shows.false)))
    c.note-in-Ok.ensures e.given (omega (arith, e.counted)) e.changes e.content e.right

pub invariant_of-self-in-Err : goal.invariant_of-self-in-Err
invariant_of-self-in-Err g c =
    let i = c.self.inside in
    let e = c.in-Err.ensures in
    let p : Portioned g.row.S.Denot =
    record { store = i.store; runs = i.runs.items; given = i.given.blocks; asked = i.asked.steps; past = i.past.rows } in
    portion_failed g.S.BlockStore p c.read.new.self c.self.invariant e.tells e.fixed c.step.new.self.steps e.ungiven
    (omega (arith, e.counted)) e.changes e.content
