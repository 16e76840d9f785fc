use Rattle.nbd_session.proofs.Feeding.{talked_on}
use Rattle.nbd_session.proofs.laws.talk_goes_on.Goals as goal

pub returns : goal.returns
returns g c = λ a b d offer input piece said more k l s t. talked_on (g.E.Export.facts a) (g.E.Export.facts b) (g.E.Export.facts d)
    offer input piece said more k l s t
