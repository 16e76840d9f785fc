use Rattle.std.proofs.Common.{ap, ◌∙◌}
use Rattle.nbd_hub.specs.Sessions.{lookup}
use Rattle.nbd_relay.proofs.client.Client.announce.Goals as goal

pub returns-clause-unknown : goal.returns-clause-unknown
returns-clause-unknown g c = λ n. c.warm.ensures.unknown
    (ap (λ k. lookup k c.args.hub.now.0.sessions) (ap (λ p. p.0.id) c.self.view_is) ∙ n)
