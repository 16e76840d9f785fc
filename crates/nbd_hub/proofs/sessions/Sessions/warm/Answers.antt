use Rattle.std.proofs.Common.{◌≡◌, ℕ, List, Option, Some, None, All, take, ap, sym, ◌∙◌, subst, arith}
use Rattle.nbd_session.specs.declared.offer.Offer.{Offer}
use Rattle.nbd_session.specs.Session.{State}
use Rattle.nbd_session.specs.Export.{IsWithin, Keeps}
use Rattle.nbd_hub.specs.Sessions.{Entry, HubState, Place, lookup}
use Rattle.nbd_hub.specs.After.{IsAfter}
use Rattle.nbd_hub.proofs.Lookup.{Place-within, lookup-at, AllOffer-at}
use Rattle.nbd_hub.proofs.Outcomes.{after_warmed}
use Rattle.nbd_hub.proofs.sessions.Sessions.warm.Goals as goal

some : (o : Option State) (s : State) → o ≡ Some s → o ≡ None → ⊥
some o s a b = cc

pub index-requires : goal.index-requires
index-requires g c =
    let ns = c.self.inside.open.items in
    let P : List Entry → Type 0 = λ l. Place c.args.id l c.in-Some.at in
    omega (arith, Place-within c.args.id ns c.in-Some.at (subst P c.deref.ensures.value c.in-Some.ensures), c.self.inside.open.ok.0)

pub warm-requires : goal.warm-requires
warm-requires g c =
    let i = c.self.inside in
    let ns = i.open.items in
    let P : List Entry → Type 0 = λ l. Place c.args.id l c.in-Some.at in
    let p : Place c.args.id ns c.in-Some.at = subst P c.deref.ensures.value c.in-Some.ensures in
    let d = c.index.result.now in
    let q : d.session.offer ≡ i.offer = ap (λ (m : Entry). m.session.offer) c.index.ensures
    ∙ AllOffer-at i.offer c.args.id ns c.in-Some.at d c.self.invariant.offers p in
    let W : ℕ → Type 0 = λ n. All (IsWithin n) (take c.ahead-noted.result c.ahead-noted.new.ranges) in
    subst W (ap (λ (o : Offer). o.size) q ∙ c.self.invariant.size) c.ahead-noted.ensures.within

pub invariant_of-self : goal.invariant_of-self
invariant_of-self g c =
    let i = c.self.invariant in
    let k = c.warm.ensures.keeps in
    record {
      size = i.size ∙ sym k.size;
      block = i.block ∙ sym k.block;
      next = i.next;
      count = i.count;
      rising = i.rising;
      offers = i.offers;
    }

pub returns-clause-state : goal.returns-clause-state
returns-clause-state g c = ap (λ p. p.0) c.self.view_is

pub returns-clause-keeps : goal.returns-clause-keeps
returns-clause-keeps g c =
    let f = g.E.Export.facts in
    let P : g.row.E.Denot → Type 0 = λ z. Keeps (f z) (f c.warm.new.self) in
    subst P (ap (λ p. p.1) c.self.view_is) c.warm.ensures.keeps

pub returns-clause-later : goal.returns-clause-later
returns-clause-later g c =
    let P : g.row.E.Denot → Type 0 = λ z. g.E.Export.later z c.warm.new.self in
    subst P (ap (λ p. p.1) c.self.view_is) c.warm.ensures.later

pub returns-clause-unknown : goal.returns-clause-unknown
returns-clause-unknown g c = λ n.
    let i = c.self.inside in
    let ns = i.open.items in
    let P : List Entry → Type 0 = λ l. Place c.args.id l c.in-Some.at in
    let p : Place c.args.id ns c.in-Some.at = subst P c.deref.ensures.value c.in-Some.ensures in
    let d = c.index.result.now in
    let v : ns ≡ c.args.self.now.0.sessions = ap (λ p. p.0.sessions) c.self.view_is in
    let f = ap (lookup c.args.id) (sym v) ∙ lookup-at c.args.id ns c.in-Some.at d p in
    absurd (some (lookup c.args.id c.args.self.now.0.sessions) _ f n)

pub returns-clause-after : goal.returns-clause-after
returns-clause-after g c = λ h x.
    let f = g.E.Export.facts in
    let P : HubState → Type 0 = λ z. IsAfter (f c.warm.new.self) z h in
    subst P (sym (ap (λ p. p.0) c.self.view_is))
    (after_warmed (f c.args.self.now.1) (f c.warm.new.self) c.args.self.now.0 h (returns-clause-keeps g c) x)
