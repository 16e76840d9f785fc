use Rattle.nbd_session.specs.declared.phase.Phase.TheVariants.{Flags}
use Rattle.nbd_session.proofs.Hearing.{hear-append}
use Rattle.nbd_session.proofs.laws.hearing_goes_on.Goals as goal

pub returns : goal.returns
returns c = λ offer input piece. hear-append offer Flags input piece
