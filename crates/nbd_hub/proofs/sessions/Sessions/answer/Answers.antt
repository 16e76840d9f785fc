use Rattle.nbd_hub.proofs.Runs.{refused_at, fed_steps, refused_asks, fed_asks}
use Rattle.nbd_hub.proofs.sessions.Sessions.answer.Goals as goal

pub returns-in-Open-clause-after : goal.returns-in-Open-clause-after
returns-in-Open-clause-after g c = λ history x.
    refused_at g.row.A.Denot g.E.Export.facts c.args.self.now c.open.new.self history c.args.event.now c.in-Err.fault
    c.in-Err.ensures.refused.0 x

pub returns-in-Feed-clause-after : goal.returns-in-Feed-clause-after
returns-in-Feed-clause-after g c = λ history x.
    refused_at g.row.A.Denot g.E.Export.facts c.args.self.now c.feed.new.self history c.args.event.now c.in-Err-feed.fault
    c.in-Err-feed.ensures.refused.1 x

pub returns-clause-after : goal.returns-clause-after
returns-clause-after g c = λ history x.
    refused_at g.row.A.Denot g.E.Export.facts c.args.self.now c.end.new.self history c.args.event.now c.in-Err-end.fault
    c.in-Err-end.ensures.refused.1 x

pub returns-in-Ok-feed-clause-after : goal.returns-in-Ok-feed-clause-after
returns-in-Ok-feed-clause-after g c = λ history x.
    fed_steps g.row.A.Denot (g.E.Export.facts c.feed.new.self.1) c.feed.new.self.0 history c.in-Feed.id c.in-Feed.piece
    c.as_slice.result.now c.new-out.result.items c.feed.new.out.items c.new-in-Ok-feed.result
    c.in-Ok-feed.status c.args.event.now c.in-Feed.is c.as_slice.ensures c.new-out.ensures.items c.new-in-Ok-feed.ensures
    (c.in-Ok-feed.ensures.after history x)

pub returns-in-Open-clause-asked : goal.returns-in-Open-clause-asked
returns-in-Open-clause-asked g c = λ history x.
    refused_asks g.row.A.Denot g.E.Export.facts c.args.self.now c.open.new.self c.args.self.now.0.offer history c.args.event.now
    c.in-Err.fault c.in-Err.ensures.refused.0

pub returns-in-Feed-clause-asked : goal.returns-in-Feed-clause-asked
returns-in-Feed-clause-asked g c = λ history x.
    refused_asks g.row.A.Denot g.E.Export.facts c.args.self.now c.feed.new.self c.args.self.now.0.offer history c.args.event.now
    c.in-Err-feed.fault c.in-Err-feed.ensures.refused.1

pub returns-clause-asked : goal.returns-clause-asked
returns-clause-asked g c = λ history x.
    refused_asks g.row.A.Denot g.E.Export.facts c.args.self.now c.end.new.self c.args.self.now.0.offer history c.args.event.now
    c.in-Err-end.fault c.in-Err-end.ensures.refused.1

pub returns-in-Ok-feed-clause-asked : goal.returns-in-Ok-feed-clause-asked
returns-in-Ok-feed-clause-asked g c = λ history x.
    fed_asks g.row.A.Denot g.E.Export.facts c.args.self.now c.feed.new.self history c.in-Feed.id c.in-Feed.piece
    c.as_slice.result.now c.new-out.result.items c.feed.new.out.items c.new-in-Ok-feed.result
    c.in-Ok-feed.status c.args.event.now c.in-Feed.is c.as_slice.ensures c.new-out.ensures.items c.new-in-Ok-feed.ensures
    c.in-Ok-feed.ensures.feeds x
