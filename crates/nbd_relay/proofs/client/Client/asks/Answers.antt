use Rattle.std.proofs.Common.{◌-◌, ◌+◌, drop, subst, ap, ◌∙◌, arith}
use Rattle.nbd_session.specs.Session.{added}
use Rattle.nbd_session.specs.Short.{asked}
use Rattle.nbd_hub.specs.History.{own}
use Rattle.nbd_relay.specs.Client.{ClientState, AsksFor}
use Rattle.nbd_relay.proofs.Buffers.{next_piece}
use Rattle.nbd_relay.proofs.client.Client.asks.Goals as goal

pub returns : goal.returns
returns g c = λ h x.
    let i = c.self.inside in
    let k = c.min-taken.result in
    let offer = c.args.hub.now.0.offer in
    let P : ClientState → Type 0 = λ z. AsksFor offer h z c.asks.result in
    let is = next_piece (drop i.begin i.input) (i.end - i.begin) (i.begin + k - i.begin) (omega (arith, c.min-taken.ensures)) in
    subst P (ap (λ p. p.0) c.self.view_is) (λ o s. c.asks.ensures.asked h x o s ∙ ap (λ z. asked (added offer (own h i.session) z)) is)
