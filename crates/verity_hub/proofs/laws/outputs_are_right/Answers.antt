use Rattle.std.proofs.Common.{subst}
use Rattle.nbd_hub.specs.Sessions.{HubState}
use Rattle.nbd_hub.specs.After.{Given}
use Rattle.nbd_hub.proofs.Runs.{told_weaker}
use Rattle.verity_check.specs.Verifier.{Verifying, IsVerifier}
use Rattle.verity_hub.specs.Verdicts.{facts_of, IsRightFor}
use Rattle.verity_hub.proofs.VerdictLaws.{given_right}
use Rattle.verity_hub.proofs.laws.outputs_are_right.Goals as goal

pub returns : goal.returns
returns g c = λ history after image fits k below.
    let D = g.D.BlockStore in
    let H = g.H.BlockStore in
    let v : HubState × Verifying g.row.D.Denot g.row.H.Denot = c.args.hub.now in
    let ok : IsVerifier D H v.1 = subst (λ (x : HubState × Verifying g.row.D.Denot g.row.H.Denot). IsVerifier D H x.1) c.hub.view_is
    (subst (λ x. IsVerifier D H x) c.export.ensures c.check.ensures) in
    told_weaker (Given (facts_of D H v.1)) (IsRightFor D H v.1 image) v.0.offer history k
    (given_right D H v.1 ok image fits) (after.told k below)
