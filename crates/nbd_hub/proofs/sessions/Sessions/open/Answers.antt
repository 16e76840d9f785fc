use Rattle.std.proofs.Common.{◌≡◌, ◌+◌, ℕ, nat_eq, if◌then◌else◌, List, [], ◌∷◌, ◌++◌, Some, length, refl, sym, ap, ◌∙◌, subst}
use Rattle.std.proofs.Common.{arith, length-append, rules}
use Rattle.nbd_session.specs.declared.offer.Offer.{Offer}
use Rattle.nbd_hub.specs.Sessions.{Entry, IsSound, lookup}
use Rattle.nbd_hub.proofs.Lookup.{lookup-push, Rising-push, AllOffer-push}
use Rattle.nbd_hub.proofs.Outcomes.{after_opened, keeps_at}
use Rattle.nbd_hub.proofs.sessions.Sessions.open.Goals as goal

pub invariant_of-self-in-Ok-push : goal.invariant_of-self-in-Ok-push
invariant_of-self-in-Ok-push g c =
    let h = c.self.inside in
    let ns = h.open.items in
    let x : Entry = record { number = h.next; session = c.in-Ok.session } in
    let i = c.self.invariant in
    let e : c.push.new.self.items ≡ ns ++ x ∷ [] = c.in-Ok-push.ensures.items
    ∙ ap (λ (n : Entry). c.reserve.new.self.items ++ n ∷ []) c.new.ensures ∙ ap (λ l. l ++ x ∷ []) c.reserve.ensures.items in
    let O : List ℕ → Offer = λ m. record { name = m; size = h.offer.size; block = h.offer.block } in
    let o : c.in-Ok.session.offer ≡ h.offer = c.in-Ok.ensures.offer ∙ ap O c.copied-name.ensures in
    let P : List Entry → Type 0 = λ l. IsSound h.offer (g.E.Export.facts h.export).size (g.E.Export.facts h.export).block (h.next + 1) l in
    subst P (sym e) (record {
      size = i.size;
      block = i.block;
      next = omega (arith, c.if-self-ge-MAX_OPENED.false);
      count = omega (arith, length-append ns (x ∷ []), c.if-len-ge-MAX_OPEN.false, c.len.ensures, h.open.ok.0);
      rising = Rising-push 0 ns h.next x i.rising refl;
      offers = AllOffer-push h.offer ns x i.offers o;
    })

pub returns-in-Ok-push-clause-opens : goal.returns-in-Ok-push-clause-opens
returns-in-Ok-push-clause-opens g c =
    let h = c.self.inside in
    let ns = h.open.items in
    let x : Entry = record { number = h.next; session = c.in-Ok.session } in
    let i = c.self.invariant in
    let e : c.push.new.self.items ≡ ns ++ x ∷ [] = c.in-Ok-push.ensures.items
    ∙ ap (λ (n : Entry). c.reserve.new.self.items ++ n ∷ []) c.new.ensures ∙ ap (λ l. l ++ x ∷ []) c.reserve.ensures.items in
    let O : List ℕ → Offer = λ m. record { name = m; size = h.offer.size; block = h.offer.block } in
    let o : c.in-Ok.session.offer ≡ h.offer = c.in-Ok.ensures.offer ∙ ap O c.copied-name.ensures in
    let H = c.args.self.now.0 in
    let v : ns ≡ H.sessions = ap (λ p. p.0.sessions) c.self.view_is in
    let w : h.offer ≡ H.offer = ap (λ p. p.0.offer) c.self.view_is in
    let n : h.next ≡ H.next = ap (λ p. p.0.next) c.self.view_is in
    let l : length ns ≡ length H.sessions = ap length v in
    record {
      room = omega (arith, l, c.if-len-ge-MAX_OPEN.false, c.len.ensures, h.open.ok.0);
      lasting = omega (arith, n, c.if-self-ge-MAX_OPENED.false);
      number = n;
      next = omega (arith, n);
      offer = w;
      count = omega (arith, l, ap length e, length-append ns (x ∷ []));
      session = c.in-Ok.session;
      at = c.in-Ok.ensures.at;
      awake = c.in-Ok.ensures.begins.1;
      offers = o ∙ w;
      sets = λ j. ap (lookup j) e ∙ lookup-push 0 ns h.next x i.rising refl j
          ∙ ap (λ l. if nat_eq j h.next then Some c.in-Ok.session else lookup j l) v;
    }

pub returns-in-Ok-push-clause-after : goal.returns-in-Ok-push-clause-after
returns-in-Ok-push-clause-after g c =
    let f = g.E.Export.facts in
    λ history x. after_opened (f c.args.self.now.1) (f c.self.inside.export) c.args.self.now.0 _ history c.self.inside.next
    (keeps_at f c.args.self.now.1 c.self.inside.export (ap (λ p. p.1) (sym c.self.view_is)))
    (returns-in-Ok-push-clause-opens g c) x

pub invariant_of-self-in-Err : goal.invariant_of-self-in-Err
invariant_of-self-in-Err g c = search rules depth 4

pub returns-in-Err-clause-refused : goal.returns-in-Err-clause-refused
returns-in-Err-clause-refused g c = search rules depth 4
