use Rattle.std.proofs.Common.{◌∙◌, sym, arith, eqb-true, vec_len}
use Rattle.nbd_session.proofs.Announcing.{session_ahead, empty_of}
use Rattle.nbd_session.proofs.session.Session.ahead.Goals as goal

pub returns-clause-asks : goal.returns-clause-asks
returns-clause-asks g c = λ input f a.
    let i = c.self.inside in
    let none = eqb-true (vec_len i.inbox.held) 0 (sym c.is_empty.ensures ∙ c.if-not-is_empty.false) in
    session_ahead i.offer i.inbox i.starved c.args.self.now input c.args.waiting.now _ c.self.view_is c.in-Transmission.is
    (empty_of i.inbox.held.items (omega (arith, none, i.inbox.held.ok.0))) c.note.ensures.asks f a
