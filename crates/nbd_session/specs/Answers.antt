-- The server's side of a session: what it does on a whole message, and the phase after it.
use Rattle.std.specs.Prelude.{[]}
use Rattle.nbd_session.specs.declared.phase.Phase.{Phase}
use Rattle.nbd_session.specs.declared.phase.Phase.TheVariants.{Flags, Options, Transmission, Ended}
use Rattle.nbd_session.specs.declared.offer.Offer.{Offer}
use Rattle.nbd_session.specs.Messages.{Message, number_at}
use Rattle.nbd_session.specs.Handshake.{phase_after_flags}
use Rattle.nbd_session.specs.Options.{option_answer, phase_after_option}
use Rattle.nbd_session.specs.Transmission.{Answer, Says, request_of, request_answer, phase_after_request}

abbrev pub answer : Offer → Phase → Message → Answer
answer offer Flags m = Says []
answer offer (Options fixed_newstyle no_zeroes) m = Says (option_answer offer no_zeroes (number_at 8 4 m.header) m.body)
answer offer Transmission m = request_answer offer.size (request_of m.header)
answer offer Ended m = Says []

abbrev pub next_phase : Offer → Phase → Message → Phase
next_phase offer Flags m = phase_after_flags (number_at 0 4 m.header)
next_phase offer (Options fixed_newstyle no_zeroes) m = phase_after_option offer fixed_newstyle no_zeroes (number_at 8 4 m.header) m.body
next_phase offer Transmission m = phase_after_request (request_of m.header)
next_phase offer Ended m = Ended
