use Rattle.std.proofs.Common.{List, IfOk, subst}
use Rattle.nbd_hub.specs.History.{Step}
use Rattle.nbd_hub.specs.Sessions.{HubState}
use Rattle.nbd_hub.specs.After.{IsAfter, FedAfter}
use Rattle.verity_check.specs.Verifier.{Verifying}
use Rattle.verity_hub.specs.Verdicts.{facts_of}
use Rattle.verity_hub.proofs.hub.Hub.feed.Goals as goal

pub returns-clause-after : goal.returns-clause-after
returns-clause-after g c =
    let w = c.feed.new.self in
    subst (λ (x : HubState × Verifying g.row.D.Denot g.row.H.Denot). IfOk c.feed.result (λ status. (history : List Step) →
    IsAfter (facts_of g.D.BlockStore g.H.BlockStore x.1) x.0 history
    → FedAfter (facts_of g.D.BlockStore g.H.BlockStore w.1) w.0 history c.args.id c.args.piece.now status c.args.out.now.items
    c.feed.new.out.items))
    c.self.view_is c.feed.ensures.after
