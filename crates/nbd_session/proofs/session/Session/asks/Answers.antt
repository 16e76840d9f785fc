use Rattle.std.proofs.Common.{◌≡◌, refl, ◌∙◌, min, length, take, ap, arith, length-take}
use Rattle.nbd_session.proofs.Asking.{session_elsewhere, session_before, session_here, none_behind}
use Rattle.nbd_session.proofs.session.Session.asks.Goals as goal

pub returns-in_default : goal.returns-in_default
returns-in_default g c = λ input f a.
    let i = c.self.inside in
    session_elsewhere i.offer i.inbox i.starved c.args.self.now input c.args.piece.now c.self.view_is c.requires
    c.in_default.not-Transmission f a

pub returns-then-piece-more : goal.returns-then-piece-more
returns-then-piece-more g c = λ input f a.
    let i = c.self.inside in
    session_before i.offer i.inbox i.starved c.args.self.now input c.args.piece.now c.self.view_is c.in-Transmission.is
    (omega (arith, c.if-piece-more.true, c.min-begun.ensures, c.len.ensures)) f a

pub returns : goal.returns
returns g c = λ input f a.
    let i = c.self.inside in
    let k = c.min-begun.result in
    let x = c.copy_from_slice.new.self in
    let m : k ≡ min (length i.inbox.held.items) 28 = omega (arith, c.min-begun.ensures, c.len.ensures) in
    let is : x ≡ take k i.inbox.held.items = c.copy_from_slice.ensures.after ∙ ap (take k) c.deref.ensures.value in
    let l : length x ≡ k = omega (arith, ap length is, length-take k i.inbox.held.items, m) in
    c.asked.ensures ∙ session_here i.offer i.inbox i.starved c.args.self.now input c.args.piece.now
    x _ c.copy_from_slice-2.new.self _ k c.self.view_is c.in-Transmission.is c.requires
    m (omega (arith, c.if-piece-more.false)) is c.copy_from_slice-2.ensures.after
    (none_behind x _ k l (omega (arith, m)) refl) f a
