use Rattle.std.proofs.Common.{◌≡◌, List, Option, Some, None, ap, sym, ◌∙◌, subst, arith}
use Rattle.nbd_session.specs.Session.{State}
use Rattle.nbd_hub.specs.Sessions.{Entry, Place, lookup}
use Rattle.nbd_hub.proofs.Lookup.{Place-within, lookup-at, AllOffer-at}
use Rattle.nbd_hub.proofs.Asking.{asks_after}
use Rattle.nbd_hub.proofs.sessions.Sessions.asks.Goals as goal

some : (o : Option State) (s : State) → o ≡ Some s → o ≡ None → ⊥
some o s a b = cc

pub index-requires : goal.index-requires
index-requires g c =
    let ns = c.self.inside.open.items in
    let P : List Entry → Type 0 = λ l. Place c.args.id l c.in-Some.at in
    omega (arith, Place-within c.args.id ns c.in-Some.at (subst P c.deref.ensures.value c.in-Some.ensures), c.self.inside.open.ok.0)

pub returns-in-Some-clause-asked : goal.returns-in-Some-clause-asked
returns-in-Some-clause-asked g c = λ h x o w.
    let i = c.self.inside in
    let ns = i.open.items in
    let P : List Entry → Type 0 = λ l. Place c.args.id l c.in-Some.at in
    let p : Place c.args.id ns c.in-Some.at = subst P c.deref.ensures.value c.in-Some.ensures in
    let d = c.index.result.now in
    let v : ns ≡ c.args.self.now.0.sessions = ap (λ p. p.0.sessions) c.self.view_is in
    let f = ap (lookup c.args.id) (sym v) ∙ lookup-at c.args.id ns c.in-Some.at d p
    ∙ ap (λ (m : Entry). Some m.session) (sym c.index.ensures) in
    let q : d.session.offer ≡ i.offer = ap (λ (m : Entry). m.session.offer) c.index.ensures
    ∙ AllOffer-at i.offer c.args.id ns c.in-Some.at d c.self.invariant.offers p in
    asks_after (g.E.Export.facts c.args.self.now.1) c.args.self.now.0 h c.args.id c.args.piece.now c.asks.result d.session f
    (q ∙ ap (λ p. p.0.offer) c.self.view_is) c.asks.ensures x w

pub returns-in-Some-clause-unknown : goal.returns-in-Some-clause-unknown
returns-in-Some-clause-unknown g c = λ n.
    let i = c.self.inside in
    let ns = i.open.items in
    let P : List Entry → Type 0 = λ l. Place c.args.id l c.in-Some.at in
    let p : Place c.args.id ns c.in-Some.at = subst P c.deref.ensures.value c.in-Some.ensures in
    let d = c.index.result.now in
    let v : ns ≡ c.args.self.now.0.sessions = ap (λ p. p.0.sessions) c.self.view_is in
    let f = ap (lookup c.args.id) (sym v) ∙ lookup-at c.args.id ns c.in-Some.at d p in
    absurd (some (lookup c.args.id c.args.self.now.0.sessions) _ f n)
