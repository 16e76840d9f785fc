use Rattle.std.proofs.Common.{subst}
use Rattle.nbd_session.specs.declared.phase.Phase.TheVariants.{Flags}
use Rattle.nbd_session.specs.Talk.{hear}
use Rattle.nbd_session.proofs.Hearing.{Judged-weaker}
use Rattle.nbd_hub.specs.Sessions.{HubState}
use Rattle.nbd_hub.specs.After.{Given}
use Rattle.nbd_relay.proofs.Saying.{is_said}
use Rattle.verity_check.specs.Verifier.{Verifying, IsVerifier}
use Rattle.verity_hub.specs.Verdicts.{facts_of, IsRightFor}
use Rattle.verity_hub.proofs.VerdictLaws.{given_right}
use Rattle.verity_hub.proofs.laws.clients_are_told_right.Goals as goal

pub returns : goal.returns
returns g c = λ history after image fits client read wrote served.
    let D = g.D.BlockStore in
    let H = g.H.BlockStore in
    let v : HubState × Verifying g.row.D.Denot g.row.H.Denot = c.args.hub.now in
    let ok : IsVerifier D H v.1 = subst (λ (x : HubState × Verifying g.row.D.Denot g.row.H.Denot). IsVerifier D H x.1) c.hub.view_is
    (subst (λ x. IsVerifier D H x) c.export.ensures c.check.ensures) in
    let s = is_said (facts_of D H v.1) v.0 history client read wrote after served in
    record {
      fed = s.fed;
      parts = s.parts;
      verdicts = s.verdicts;
      judged = Judged-weaker (Given (facts_of D H v.1)) (IsRightFor D H v.1 image) (hear v.0.offer Flags s.fed).answers s.verdicts
          (given_right D H v.1 ok image fits) s.judged;
      exact = s.exact;
      begins = s.begins;
      whole = s.whole;
    }
