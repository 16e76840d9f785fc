use Rattle.std.proofs.Common.{[], refl, sym, append-nil}
use Rattle.nbd_session.specs.Transmission.{request_of}
use Rattle.nbd_session.proofs.Reading.{disc_says}
use Rattle.nbd_session.proofs.transmission.answer_request.Goals as goal

pub returns-in-2-clause-ok : goal.returns-in-2-clause-ok
returns-in-2-clause-ok g c = (
  [],
  sym (append-nil c.args.out.now.items),
  disc_says _ _ c.args.size c.of-request.result (request_of c.args.header.now)
      c.of-request.ensures c.in-2.is refl,
)
