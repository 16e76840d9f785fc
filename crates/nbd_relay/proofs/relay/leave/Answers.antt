use Rattle.std.proofs.Common.{◌++◌, ℕ, List, [], ◌∷◌, Option, sym, subst}
use Rattle.std.specs.List.{remove}
use Rattle.nbd_session.specs.declared.offer.Offer.{Offer}
use Rattle.nbd_session.specs.Session.{State}
use Rattle.nbd_hub.specs.History.{Ending, IsOpen}
use Rattle.nbd_hub.specs.After.{IsAfter, Stands}
use Rattle.nbd_relay.specs.Client.{ClientState}
use Rattle.nbd_relay.specs.Clients.{AllServed}
use Rattle.nbd_relay.proofs.Many.{all_left, open_at}
use Rattle.nbd_relay.proofs.relay.leave.Goals as goal

pub returns-in-Ok-clause-serves : goal.returns-in-Ok-clause-serves
returns-in-Ok-clause-serves g c = λ h logs x v.
    let f = g.E.Export.facts in
    let hub = c.args.hub.now in
    let hub' = c.end.new.self in
    let cs = c.args.clients.now.items in
    let at = c.args.at in
    let d = c.remove-client.result in
    let A : ℕ → Type 0 = λ z. IsAfter (f hub'.1) hub'.0 (h ++ Ending z ∷ []) in
    let B : ClientState × g.row.S.Denot → Type 0 = λ z. AllServed hub.0.offer (h ++ Ending z.0.id ∷ []) (remove cs at) (remove logs at) in
    let R : List (ClientState × g.row.S.Denot) → Type 0 = λ z. AllServed hub.0.offer (h ++ Ending d.0.id ∷ []) z (remove logs at) in
    let O : Offer → Type 0 = λ z. AllServed z (h ++ Ending d.0.id ∷ []) c.remove-client.new.self.items (remove logs at) in
    let left = all_left g.S.Stream.remaining g.S.Stream.received g.S.Stream.contents hub.0.offer h cs logs at d c.requires v in (
      subst A c.id.ensures (c.in-Ok.ensures.after h x).after,
      subst O (sym c.in-Ok.ensures.ends.offer)
          (subst R (sym c.remove-client.ensures.items) (subst B (sym c.remove-client.ensures.value) left)),
    )

pub returns-in-Err-clause-serves : goal.returns-in-Err-clause-serves
returns-in-Err-clause-serves g c = λ h logs x v.
    let hub = c.args.hub.now in
    let d = c.remove-client.result in
    let P : ClientState × g.row.S.Denot → Type 0 = λ z. IsOpen h z.0.id in
    let was : IsOpen h d.0.id = subst P (sym c.remove-client.ensures.value)
    (open_at g.S.Stream.remaining g.S.Stream.received g.S.Stream.contents hub.0.offer h c.args.clients.now.items logs c.args.at d
    c.requires v) in
    let Q : ℕ → Type 0 = λ z. IsOpen h z in
    let S : Option State → Type 0 = λ z. Stands h c.id.result z in
    absurd ((subst S c.in-Err.ensures.unknown (x.sessions c.id.result)) (subst Q (sym c.id.ensures) was))
