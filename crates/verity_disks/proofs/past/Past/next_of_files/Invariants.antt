use Rattle.std.proofs.Common.{◌∷◌}
use Rattle.verity_disks.proofs.past.Past.next_of_files.Given as goal

abbrev pub ghost-next_after_files : goal.ghost-next_after_files
ghost-next_after_files g a = a._files.now ∷ a._past.now.moments
