use Rattle.nbd_serve.proofs.connected.Connected.go_through.Goals as goal

pub returns-clause-serves : goal.returns-clause-serves
returns-clause-serves g c = λ s. c.hand_on.ensures.serves _ (c.take_turns-came.ensures.serves s)
