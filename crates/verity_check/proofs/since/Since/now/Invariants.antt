use Rattle.std.proofs.Common.{length}
use Rattle.verity_check.proofs.since.Since.now.Given as goal

abbrev pub ghost-end_of : goal.ghost-end_of
ghost-end_of g a = length (g.D.BlockStore.given a._store.now)

abbrev pub ghost-end_of-2 : goal.ghost-end_of-2
ghost-end_of-2 g a = length (g.H.BlockStore.given a._store.now)
