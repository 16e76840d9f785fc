use Rattle.std.proofs.Common.{List, sym, subst}
use Rattle.nbd_hub.specs.History.{Step}
use Rattle.nbd_hub.specs.Sessions.{HubState}
use Rattle.nbd_hub.specs.After.{IsAfter}
use Rattle.nbd_serve.specs.Sockets.{AreGivenBack, IsTold}
use Rattle.verity_chain.specs.Table.{Table}
use Rattle.verity_chain.specs.Right.{Fits}
use Rattle.verity_check.specs.Verifier.{Verifying, IsOnlyReading, IsVerifier}
use Rattle.verity_hub.specs.Verdicts.{facts_of}
use Rattle.verity_hub.proofs.Carrying.{all_right}
use Rattle.verity_hub.proofs.server.serve_clients.Goals as goal

pub returns-clause-right : goal.returns-clause-right
returns-clause-right g c = λ history after image fits.
    let D = g.D.BlockStore in
    let H = g.H.BlockStore in
    let v : HubState × Verifying g.row.D.Denot g.row.H.Denot = c.args.hub.now in
    let w : HubState × Verifying g.row.D.Denot g.row.H.Denot = c.serve_clients-served.new.hub in
    let old = g.L.Door.visits c.args.door.now in
    let new = g.L.Door.visits c.serve_clients-served.new.door in
    let back : (history : List Step) → IsAfter (facts_of D H v.1) v.0 history
    → AreGivenBack (IsTold (facts_of D H) (IsOnlyReading D H) w) old new =
    subst (λ (x : HubState × Verifying g.row.D.Denot g.row.H.Denot). (history : List Step) → IsAfter (facts_of D H x.1) x.0 history
    → AreGivenBack (IsTold (facts_of D H) (IsOnlyReading D H) w) old new) c.hub.view_is c.serve_clients-served.ensures.given_back in
    let keeps : IsOnlyReading D H v.1 w.1 = subst (λ (x : HubState × Verifying g.row.D.Denot g.row.H.Denot). IsOnlyReading D H x.1 w.1)
    c.hub.view_is c.serve_clients-served.ensures.goes_on.export in
    let ok : IsVerifier D H w.1 = subst (λ x. IsVerifier D H x) c.export.ensures c.check.ensures in
    all_right D H w ok image (subst (λ (t : Table). Fits t image) (sym keeps.table) fits) old new (back history after)
