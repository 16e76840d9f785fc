use Rattle.std.proofs.Common.{◌++◌, List, sym, subst}
use Rattle.nbd_hub.specs.History.{Step, steps}
use Rattle.nbd_hub.specs.Sessions.{HubState}
use Rattle.nbd_hub.specs.After.{AsksOn, EachAfter, Given, IsAfter}
use Rattle.nbd_hub.proofs.Runs.{each_weaker}
use Rattle.verity_chain.specs.Table.{Table}
use Rattle.verity_chain.specs.Right.{Fits}
use Rattle.verity_check.specs.Verifier.{Verifying, IsOnlyReading, IsVerifier}
use Rattle.verity_hub.specs.Verdicts.{facts_of, IsRightFor}
use Rattle.verity_hub.proofs.VerdictLaws.{given_right, good_after}
use Rattle.verity_hub.proofs.hub.Hub.run.Goals as goal

pub returns-clause-ran : goal.returns-clause-ran
returns-clause-ran g c =
    let D = g.D.BlockStore in
    let H = g.H.BlockStore in
    let events = c.args.events.now in
    let v : HubState × Verifying g.row.D.Denot g.row.H.Denot = c.args.self.now in
    let w : HubState × Verifying g.row.D.Denot g.row.H.Denot = c.run.new.self in
    let r = c.run.ensures.ran in
    let then : Verifying g.row.D.Denot g.row.H.Denot → Verifying g.row.D.Denot g.row.H.Denot → Type 0 = IsOnlyReading D H in
    let ran : (history : List Step) → IsAfter (facts_of D H v.1) v.0 history
    → EachAfter (AsksOn then (facts_of D H)) (λ x. Given (facts_of D H x)) v.1 w.1 v.0.offer history events r.0
    × IsAfter (facts_of D H w.1) w.0 (history ++ steps events r.0) =
    subst (λ (x : HubState × Verifying g.row.D.Denot g.row.H.Denot). (history : List Step) → IsAfter (facts_of D H x.1) x.0 history
    → EachAfter (AsksOn then (facts_of D H)) (λ y. Given (facts_of D H y)) x.1 w.1 x.0.offer history events r.0 ×
    IsAfter (facts_of D H w.1) w.0 (history ++ steps events r.0)) c.self.view_is r.3 in
    let ok : IsVerifier D H v.1 = subst (λ (x : HubState × Verifying g.row.D.Denot g.row.H.Denot). IsVerifier D H x.1) c.self.view_is
    (subst (λ x. IsVerifier D H x) c.export.ensures c.check.ensures) in (
      r.0,
      r.1,
      r.2,
      λ history after.
          let e = ran history after in (
            e.0,
            (λ image fits. each_weaker (AsksOn then (facts_of D H)) (AsksOn then (facts_of D H)) (λ x. Given (facts_of D H x))
                (λ x. IsRightFor D H x image) (λ x. IsVerifier D H x × Fits x.table image)
                (λ x y offer h event reply asks good. (good_after D H image x y asks.0 good, asks))
                (λ x good. given_right D H x good.0 image good.1) v.1 w.1 v.0.offer history events r.0 (ok, fits) e.0),
            e.1,
          ),
    )
