use Rattle.std.proofs.Common.{[], ◌∷◌, ◌++◌}
use Rattle.verity_read_log.proofs.Given.next.Given as goal

abbrev pub ghost-next_after : goal.ghost-next_after
ghost-next_after a = a._given.now.blocks ++ (a._n, a._block.now) ∷ []
