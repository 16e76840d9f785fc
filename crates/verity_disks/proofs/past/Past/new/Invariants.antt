use Rattle.std.proofs.Common.{[]}
use Rattle.verity_disks.proofs.past.Past.new.Given as goal

abbrev pub ghost-past_of : goal.ghost-past_of
ghost-past_of a = []
