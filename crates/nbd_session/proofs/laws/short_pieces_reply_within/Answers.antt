use Rattle.nbd_session.specs.Export.{Fair}
use Rattle.nbd_session.proofs.Shorter.{replies_within, fair_len}
use Rattle.nbd_session.proofs.laws.short_pieces_reply_within.Goals as goal

pub returns : goal.returns
returns g c = λ a b. let f = g.E.Export.facts in replies_within (Fair (f a) (f b)) (fair_len (f a) (f b))
