use Rattle.nbd_session.proofs.Shorter.{asks_once}
use Rattle.nbd_session.proofs.laws.short_pieces_ask_once.Goals as goal

pub returns : goal.returns
returns c = asks_once
