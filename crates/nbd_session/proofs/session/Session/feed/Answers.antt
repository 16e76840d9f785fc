use Rattle.nbd_session.proofs.Feeding.{feeds_ended, feeds_on}
use Rattle.nbd_session.proofs.session.Session.feed.Goals as goal

pub returns-in-Ended-clause-feeds : goal.returns-in-Ended-clause-feeds
returns-in-Ended-clause-feeds g c =
    feeds_ended (g.E.Export.facts c.args.export.now) c.self.inside.offer c.self.inside.inbox c.self.inside.starved c.args.self.now
    c.args.piece.now c.args.out.now.items
    c.self.view_is c.if-self.false c.in-Ended.is

pub returns-in-Ok-clause-feeds : goal.returns-in-Ok-clause-feeds
returns-in-Ok-clause-feeds g c =
    feeds_on (g.E.Export.facts c.args.export.now) (g.E.Export.facts c.turns.new.export) c.self.inside.offer c.self.inside.inbox
    c.turns.new.inbox c.self.inside.starved c.args.self.now c.args.piece.now c.args.out.now.items c.turns.new.out.items c.of.result
    c.self.view_is c.if-self.false c.in-Ok.ensures.keeps c.in_default.not-Ended c.in-Ok.ensures.moves c.of.ensures.awake c.of.ensures.ended
