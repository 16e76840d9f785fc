use Rattle.std.proofs.Common.{◌≡◌, ℕ, nat_eq, if◌then◌else◌, List, Option, Some, length, sym, ap, ◌∙◌, subst, arith, length-set}
use Rattle.nbd_session.specs.Session.{State, Feeds}
use Rattle.nbd_session.specs.declared.offer.Offer.{Offer}
use Rattle.nbd_hub.specs.Sessions.{Entry, lookup, Place}
use Rattle.nbd_hub.proofs.Lookup.{Place-within, lookup-at, number-at, lookup-set, Rising-set, AllOffer-set, AllOffer-at}
use Rattle.nbd_hub.proofs.Outcomes.{after_fed}
use Rattle.nbd_hub.proofs.sessions.Sessions.feed.Goals as goal

pub index_mut-one-requires : goal.index_mut-one-requires
index_mut-one-requires g c =
    let ns = c.self.inside.open.items in
    let P : List Entry → Type 0 = λ l. Place c.args.id l c.in-Some.at in
    omega (arith, Place-within c.args.id ns c.in-Some.at (subst P c.deref.ensures.value c.in-Some.ensures), c.self.inside.open.ok.0)

pub feed-requires : goal.feed-requires
feed-requires g c =
    let h = c.self.inside in
    let ns = h.open.items in
    let P : List Entry → Type 0 = λ l. Place c.args.id l c.in-Some.at in
    let p : Place c.args.id ns c.in-Some.at = subst P c.deref.ensures.value c.in-Some.ensures in
    ap (λ (n : Entry). n.session.offer.size) c.index_mut-one.ensures.value
    ∙ ap (λ (o : Offer). o.size) (AllOffer-at h.offer c.args.id ns c.in-Some.at c.index_mut-one.result.now c.self.invariant.offers
    p) ∙ c.self.invariant.size

pub invariant_of-self : goal.invariant_of-self
invariant_of-self g c =
    let h = c.self.inside in
    let ns = h.open.items in
    let i = c.self.invariant in
    let d = c.index_mut-one.result.now in
    let k = c.feed.ensures.feeds.keeps in
    let x = c.feed.new.self in
    let P : List Entry → Type 0 = λ l. Place c.args.id l c.in-Some.at in
    let p : Place c.args.id ns c.in-Some.at = subst P c.deref.ensures.value c.in-Some.ensures in
    let n : x.number ≡ c.args.id = c.feed.ensures.number ∙ ap (λ (m : Entry). m.number) c.index_mut-one.ensures.value
    ∙ number-at c.args.id ns c.in-Some.at d p in
    let o : d.session.offer ≡ h.offer = ap (λ (m : Entry). m.session.offer) c.index_mut-one.ensures.value
    ∙ AllOffer-at h.offer c.args.id ns c.in-Some.at d i.offers p in
    record {
      size = i.size ∙ sym k.size;
      block = i.block ∙ sym k.block;
      next = i.next;
      count = rw length-set i.count;
      rising = Rising-set c.args.id 0 ns h.next c.in-Some.at x i.rising p n;
      offers = AllOffer-set h.offer c.args.id ns c.in-Some.at x i.offers p (c.feed.ensures.feeds.offer ∙ o);
    }

pub returns-clause-feeds : goal.returns-clause-feeds
returns-clause-feeds g c =
    let h = c.self.inside in
    let ns = h.open.items in
    let i = c.self.invariant in
    let d = c.index_mut-one.result.now in
    let x = c.feed.new.self in
    let P : List Entry → Type 0 = λ l. Place c.args.id l c.in-Some.at in
    let p : Place c.args.id ns c.in-Some.at = subst P c.deref.ensures.value c.in-Some.ensures in
    let n : x.number ≡ c.args.id = c.feed.ensures.number ∙ ap (λ (m : Entry). m.number) c.index_mut-one.ensures.value
    ∙ number-at c.args.id ns c.in-Some.at d p in
    let o : d.session.offer ≡ h.offer = ap (λ (m : Entry). m.session.offer) c.index_mut-one.ensures.value
    ∙ AllOffer-at h.offer c.args.id ns c.in-Some.at d i.offers p in
    let H = c.args.self.now.0 in
    let v : ns ≡ H.sessions = ap (λ p. p.0.sessions) c.self.view_is in
    let w : h.offer ≡ H.offer = ap (λ p. p.0.offer) c.self.view_is in
    let u : h.export ≡ c.args.self.now.1 = ap (λ p. p.1) c.self.view_is in
    let F : (j : ℕ) → List Entry → Option State = λ j l. if nat_eq j c.args.id then Some x.session else lookup j l in
    let Q : g.row.E.Denot → Type 0 = λ z. Feeds (g.E.Export.facts z) (g.E.Export.facts c.feed.new.export) d.session x.session
    c.args.piece.now c.args.out.now.items c.feed.new.out.items c.feed.result in
    record {
      next = ap (λ p. p.0.next) c.self.view_is;
      offer = w;
      count = length-set ns c.in-Some.at x ∙ ap length v;
      before = d.session;
      found = ap (lookup c.args.id) (sym v) ∙ lookup-at c.args.id ns c.in-Some.at d p
          ∙ ap (λ (m : Entry). Some m.session) (sym c.index_mut-one.ensures.value);
      offers = o ∙ w;
      after = x.session;
      sets = λ j. lookup-set c.args.id ns c.in-Some.at x p n j ∙ ap (F j) v;
      feeds = subst Q u c.feed.ensures.feeds;
    }

pub returns-clause-after : goal.returns-clause-after
returns-clause-after g c =
    let f = g.E.Export.facts in
    λ history x. after_fed (f c.args.self.now.1) (f c.feed.new.export) c.args.self.now.0 _ history c.args.id c.args.piece.now
    c.args.out.now.items c.feed.new.out.items c.feed.result
    (returns-clause-feeds g c) x
