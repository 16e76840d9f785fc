use Rattle.std.proofs.Common.{length}
use Rattle.verity_chain.specs.Origin.{facts_of, rows_of}
use Rattle.verity_chain.proofs.checked.Checked.new.Given as goal

abbrev pub ghost-end_of : goal.ghost-end_of
ghost-end_of g a = length (g.H.BlockStore.given a._store.now)

abbrev pub ghost-origin_of : goal.ghost-origin_of
ghost-origin_of g a = rows_of (facts_of g.H.BlockStore a._store.now)
