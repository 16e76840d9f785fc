use Rattle.std.proofs.Common.{◌++◌, ℕ, List, [], ◌∷◌, sym, ap, ◌∙◌, subst}
use Rattle.nbd_session.specs.declared.offer.Offer.{Offer}
use Rattle.nbd_session.specs.Handshake.{greeting}
use Rattle.nbd_hub.specs.History.{Opening}
use Rattle.nbd_hub.specs.After.{IsAfter}
use Rattle.nbd_relay.specs.Client.{ClientState, IsServed}
use Rattle.nbd_relay.specs.Clients.{AllServed}
use Rattle.nbd_relay.proofs.Many.{all_open}
use Rattle.nbd_relay.proofs.relay.accept.Goals as goal

pub returns-in-Ok-push-clause-serves : goal.returns-in-Ok-push-clause-serves
returns-in-Ok-push-clause-serves g c = λ h logs x v.
    let f = g.E.Export.facts in
    let hub = c.args.hub.now in
    let hub' = c.open.new.hub in
    let client = c.in-Ok.client in
    let items = c.args.clients.now.items in
    let o = c.in-Ok.ensures.opens in
    let s = c.in-Ok.ensures.serves h x in
    let A : ℕ → Type 0 = λ k. IsAfter (f hub'.1) hub'.0 (h ++ Opening k greeting ∷ []) in
    let B : ℕ → Type 0 = λ k. IsServed hub'.0.offer (h ++ Opening k greeting ∷ []) client.0 [] [] in
    let V : Offer → Type 0 = λ z. AllServed z h items logs in
    let R : List (ClientState × g.row.S.Denot) → Type 0 =
    λ z. AllServed hub'.0.offer (h ++ Opening hub.0.next greeting ∷ []) z (logs ++ record { read = []; wrote = [] } ∷ []) in (
      subst A o.number s.0,
      subst R (sym (c.in-Ok-push.ensures.items ∙ ap (λ z. z ++ client ∷ []) c.reserve.ensures.items))
          (all_open g.S.Stream.remaining g.S.Stream.received g.S.Stream.contents hub'.0.offer h hub.0.next greeting items logs client
          x.next o.number (subst B o.number s.1) (subst V (sym o.offer) v)),
    )

pub returns-in-Ok-push-clause-added : goal.returns-in-Ok-push-clause-added
returns-in-Ok-push-clause-added g c =
    let client = c.in-Ok.client in (
      client,
      c.in-Ok-push.ensures.items ∙ ap (λ z. z ++ client ∷ []) c.reserve.ensures.items,
      c.in-Ok.ensures.opens.number,
      c.in-Ok.ensures.stream,
    )
