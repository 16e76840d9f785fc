use Rattle.std.proofs.Common.{sym, subst}
use Rattle.nbd_session.specs.Session.{Talked}
use Rattle.nbd_hub.specs.Sessions.{HubState}
use Rattle.nbd_hub.specs.Stream.{Ends, Served}
use Rattle.nbd_hub.proofs.Weaker.{served_weaker}
use Rattle.verity_chain.specs.Table.{Table}
use Rattle.verity_chain.specs.Right.{Fits}
use Rattle.verity_check.specs.Verifier.{Verifying, IsOnlyReading, IsVerifier}
use Rattle.verity_hub.specs.Verdicts.{facts_of, SaysRight, SaysExact}
use Rattle.verity_hub.proofs.Saying.{says_right, says_exact}
use Rattle.verity_hub.proofs.stream.serve_stream.Goals as goal

pub returns-clause-right : goal.returns-clause-right
returns-clause-right g c = λ image fits.
    let D = g.D.BlockStore in
    let H = g.H.BlockStore in
    let v : HubState × Verifying g.row.D.Denot g.row.H.Denot = c.args.hub.now in
    let w : HubState × Verifying g.row.D.Denot g.row.H.Denot = c.serve-result.new.hub in
    let e : Ends = record {
      reader = g.R.Input.remaining c.args.reader.now;
      reader' = g.R.Input.remaining c.serve-result.new.reader;
      writer = g.W.Output.contents c.args.writer.now;
      writer' = g.W.Output.contents c.serve-result.new.writer;
    } in
    let served : Served (facts_of D H v.1) (facts_of D H w.1) v.0.offer e c.args.limit c.serve-result.result =
    subst (λ (x : HubState × Verifying g.row.D.Denot g.row.H.Denot). Served (facts_of D H x.1) (facts_of D H w.1) x.0.offer e
    c.args.limit c.serve-result.result) c.hub.view_is c.serve-result.ensures.served in
    let keeps : IsOnlyReading D H v.1 w.1 = subst (λ (x : HubState × Verifying g.row.D.Denot g.row.H.Denot). IsOnlyReading D H x.1
    w.1) c.hub.view_is c.serve-result.ensures.later in
    let ok : IsVerifier D H w.1 = subst (λ x. IsVerifier D H x) c.export.ensures c.check.ensures in
    served_weaker (Talked (facts_of D H v.1) (facts_of D H w.1) v.0.offer) (SaysRight D H w.1 image v.0.offer) v.0.offer e
    c.args.limit c.serve-result.result
    (says_right D H v.1 w.1 ok image (subst (λ (t : Table). Fits t image) (sym keeps.table) fits) v.0.offer) served

pub returns-clause-exact : goal.returns-clause-exact
returns-clause-exact g c = λ image holds.
    let D = g.D.BlockStore in
    let H = g.H.BlockStore in
    let v : HubState × Verifying g.row.D.Denot g.row.H.Denot = c.args.hub.now in
    let w : HubState × Verifying g.row.D.Denot g.row.H.Denot = c.serve-result.new.hub in
    let e : Ends = record {
      reader = g.R.Input.remaining c.args.reader.now;
      reader' = g.R.Input.remaining c.serve-result.new.reader;
      writer = g.W.Output.contents c.args.writer.now;
      writer' = g.W.Output.contents c.serve-result.new.writer;
    } in
    let served : Served (facts_of D H v.1) (facts_of D H w.1) v.0.offer e c.args.limit c.serve-result.result =
    subst (λ (x : HubState × Verifying g.row.D.Denot g.row.H.Denot). Served (facts_of D H x.1) (facts_of D H w.1) x.0.offer e
    c.args.limit c.serve-result.result) c.hub.view_is c.serve-result.ensures.served in
    served_weaker (Talked (facts_of D H v.1) (facts_of D H w.1) v.0.offer) (SaysExact D H v.1 w.1 image v.0.offer) v.0.offer e
    c.args.limit c.serve-result.result
    (says_exact D H v.1 w.1 image holds v.0.offer) served
