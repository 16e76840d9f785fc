use Rattle.nbd_serve.proofs.Tellings.{tells_none}
use Rattle.nbd_serve.proofs.room.Room.part_if_silent.Goals as goal

pub returns-clause-told : goal.returns-clause-told
returns-clause-told g c = tells_none _ _
