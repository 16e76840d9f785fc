use Rattle.std.proofs.Common.{refl}
use Rattle.nbd_hub.proofs.stream.serve.Goals as goal

pub returns-clause-ended : goal.returns-clause-ended
returns-clause-ended g c = λ h. absurd (h c.in-Err.fault refl)

pub returns-clause-opened : goal.returns-clause-opened
returns-clause-opened g c = λ h. absurd (h c.in-Err.fault refl)

pub returns-clause-after : goal.returns-clause-after
returns-clause-after g c = λ h. absurd (h c.in-Err.fault refl)
