use Rattle.nbd_relay.proofs.Many.{runs_more}
use Rattle.nbd_relay.proofs.laws.runs_go_on.Goals as goal

pub returns : goal.returns
returns g c = λ a b hub hub' history first mid last logs x f.
    runs_more g.S.Stream.remaining g.S.Stream.received g.S.Stream.contents (g.E.Export.facts a) (g.E.Export.facts b) hub hub'
    history first mid last logs x f
