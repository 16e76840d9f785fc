use Rattle.std.proofs.Common.{◌≡◌, ℕ, nat_eq, if◌then◌else◌, List, Option, None, length, get_or, sym, ap, ◌∙◌, subst, arith}
use Rattle.nbd_session.specs.Session.{State}
use Rattle.nbd_hub.specs.Sessions.{Entry, IsSound, lookup, Place}
use Rattle.nbd_hub.proofs.Lookup.{Place-within, lookup-at, lookup-remove, Rising-remove, AllOffer-remove, length-remove_at}
use Rattle.nbd_hub.proofs.Outcomes.{after_ended, keeps_at}
use Rattle.nbd_hub.proofs.sessions.Sessions.end.Goals as goal

pub remove-ended-requires : goal.remove-ended-requires
remove-ended-requires g c =
    let ns = c.self.inside.open.items in
    let P : List Entry → Type 0 = λ l. Place c.args.id l c.in-Some.at in
    omega (arith, Place-within c.args.id ns c.in-Some.at (subst P c.deref.ensures.value c.in-Some.ensures), c.self.inside.open.ok.0)

pub invariant_of-self : goal.invariant_of-self
invariant_of-self g c =
    let h = c.self.inside in
    let ns = h.open.items in
    let i = c.self.invariant in
    let P : List Entry → Type 0 = λ l. Place c.args.id l c.in-Some.at in
    let p : Place c.args.id ns c.in-Some.at = subst P c.deref.ensures.value c.in-Some.ensures in
    let Q : List Entry → Type 0 = λ l. IsSound h.offer (g.E.Export.facts h.export).size (g.E.Export.facts h.export).block h.next l in
    subst Q (sym c.remove-ended.ensures.items) (record {
      size = i.size;
      block = i.block;
      next = i.next;
      count = omega (arith, length-remove_at c.args.id ns c.in-Some.at p, i.count);
      rising = Rising-remove c.args.id 0 ns h.next c.in-Some.at i.rising p;
      offers = AllOffer-remove h.offer c.args.id ns c.in-Some.at i.offers p;
    })

pub returns-clause-ends : goal.returns-clause-ends
returns-clause-ends g c =
    let h = c.self.inside in
    let ns = h.open.items in
    let P : List Entry → Type 0 = λ l. Place c.args.id l c.in-Some.at in
    let p : Place c.args.id ns c.in-Some.at = subst P c.deref.ensures.value c.in-Some.ensures in
    let H = c.args.self.now.0 in
    let v : ns ≡ H.sessions = ap (λ p. p.0.sessions) c.self.view_is in
    let d = c.remove-ended.result in
    let F : (j : ℕ) → List Entry → Option State = λ j l. if nat_eq j c.args.id then None else lookup j l in
    record {
      next = ap (λ p. p.0.next) c.self.view_is;
      offer = ap (λ p. p.0.offer) c.self.view_is;
      count = omega (arith, ap length c.remove-ended.ensures.items, length-remove_at c.args.id ns c.in-Some.at p, ap length v);
      session = (get_or ns c.in-Some.at d).session;
      found = ap (lookup c.args.id) (sym v) ∙ lookup-at c.args.id ns c.in-Some.at d p;
      sets = λ j. ap (lookup j) c.remove-ended.ensures.items ∙ lookup-remove c.args.id 0 ns h.next c.in-Some.at
          c.self.invariant.rising p j ∙ ap (F j) v;
    }

pub returns-clause-after : goal.returns-clause-after
returns-clause-after g c =
    let f = g.E.Export.facts in
    λ history x. after_ended (f c.args.self.now.1) (f c.self.inside.export) c.args.self.now.0 _ history c.args.id
    (keeps_at f c.args.self.now.1 c.self.inside.export (ap (λ p. p.1) (sym c.self.view_is)))
    (returns-clause-ends g c) x
