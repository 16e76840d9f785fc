use Rattle.std.proofs.Common.{◌∷◌}
use Rattle.verity_disks.proofs.past.Past.next.Given as goal

abbrev pub ghost-next_after : goal.ghost-next_after
ghost-next_after g a = a._devices.now ∷ a._past.now.moments
