use Rattle.std.proofs.Common.{length}
use Rattle.verity_update.proofs.walk.update.Given as goal

abbrev pub ghost-end_of : goal.ghost-end_of
ghost-end_of g a = length (g.H.BlockStore.given a._store.now)
