use Rattle.nbd_serve.proofs.Tellings.{tells_none}
use Rattle.nbd_serve.proofs.room.Room.leave_if_stalled.Goals as goal

pub returns-then-not-has_stalled-clause-told : goal.returns-then-not-has_stalled-clause-told
returns-then-not-has_stalled-clause-told g c = tells_none _ _
