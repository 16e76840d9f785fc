use Rattle.nbd_serve.proofs.Counting.{runs_none}
use Rattle.nbd_serve.proofs.turns.take_turn.Goals as goal

pub returns-then-waits_for_memory-clause-hungry : goal.returns-then-waits_for_memory-clause-hungry
returns-then-waits_for_memory-clause-hungry g c = λ e. c.waits_for_memory.ensures c.if-waits_for_memory.true

pub returns-then-waits_for_memory-clause-serves : goal.returns-then-waits_for_memory-clause-serves
returns-then-waits_for_memory-clause-serves g c = λ h logs x v.
    runs_none g.S.Stream.remaining g.S.Stream.received g.S.Stream.contents (g.E.Export.facts c.args.hub.now.1) c.args.hub.now.0 h
    c.args.clients.now logs x v
