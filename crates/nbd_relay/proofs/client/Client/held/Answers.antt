use Rattle.std.proofs.Common.{ap, length, arith, length-drop}
use Rattle.nbd_relay.specs.Client.{ClientState}
use Rattle.nbd_relay.proofs.client.Client.held.Goals as goal

pub returns-then-self-len-clause-given_back : goal.returns-then-self-len-clause-given_back
returns-then-self-len-clause-given_back g c = λ e.
    let i = c.self.inside in
    let v = ap (λ (z : ClientState). length z.unsent) (ap (λ p. p.0) c.self.view_is) in
    absurd (omega (arith, v, ap length e, length-drop i.sent i.pending.items, c.if-self-len.true, c.len.ensures))
