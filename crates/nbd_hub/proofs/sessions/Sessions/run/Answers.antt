use Rattle.std.proofs.Common.{◌≡◌, ◌<◌, ◌++◌, length, List, [], ◌∷◌, ℕ, refl, ap, sym, ◌∙◌, subst, arith, append_assoc, append-nil}
use Rattle.std.proofs.Common.{length-append, get_or}
use Rattle.nbd_hub.specs.declared.events.HubReply.{HubReply}
use Rattle.nbd_session.proofs.Moving.{Keeps-refl, Keeps-trans}
use Rattle.nbd_hub.specs.History.{Step}
use Rattle.nbd_hub.specs.After.{IsAfter}
use Rattle.nbd_hub.proofs.Runs.{ran_on}
use Rattle.nbd_hub.proofs.sessions.Sessions.run.Goals as goal

pub loop-event-init : goal.loop-event-init
loop-event-init g c =
    let f = g.E.Export.facts in
    record {
      offer = refl;
      keeps = Keeps-refl (f c.args.self.now.1);
      later = g.met.E.Export.later_same c.args.self.now.1;
      ran = (
        [],
        sym (append-nil c.args.replies.now.items),
        refl,
        λ history x.
            let I : List Step → Type 0 = λ z. IsAfter (f c.args.self.now.1) c.args.self.now.0 z in
            (refl, subst I (sym (append-nil history)) x),
      );
    }

pub loop-event-preserved : goal.loop-event-preserved
loop-event-preserved g c =
    let f = g.E.Export.facts in
    let i = c.loop-event.invariant in
    let r = i.ran in
    let a = c.answer-reply in
    let events = c.args.events.now in
    let one : List (HubReply g.row.A.Denot) = a.result ∷ [] in
    let n : length r.0 ≡ c.loop-event.event-index = r.2 in
    let l : length r.0 < length events = omega (arith, n) in
    let G : ℕ → Type 0 = λ m. c.event-item.result ≡ get_or events m c.event-item.result in
    let is : c.event-item.result ≡ get_or events (length r.0) c.event-item.result = subst G (sym n) c.event-item.is in
    record {
      offer = a.ensures.offer ∙ i.offer;
      keeps = Keeps-trans (f c.args.self.now.1) (f c.loop-event.self.1) (f a.new.self.1) i.keeps a.ensures.keeps;
      later = g.met.E.Export.later_on c.args.self.now.1 c.loop-event.self.1 a.new.self.1 i.later a.ensures.later;
      ran = (
        r.0 ++ one,
        c.in-Ok.ensures.items ∙ ap (λ x. x ++ one) (c.reserve.ensures.items ∙ r.1) ∙ append_assoc c.args.replies.now.items r.0 one,
        omega (arith, length-append r.0 one, n),
        λ history x. ran_on g.E.Export.later f c.args.self.now.1 c.loop-event.self.1 a.new.self.1 c.args.self.now.0.offer
            c.loop-event.self.0 a.new.self.0 history events r.0 c.event-item.result a.result
            a.ensures.later i.offer a.ensures.offer l is (r.3 history x) a.ensures.replies a.ensures.asked a.ensures.after,
      );
    }
