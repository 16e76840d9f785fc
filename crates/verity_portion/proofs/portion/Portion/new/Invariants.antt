use Rattle.verity_portion.specs.Portion.{facts_of, rows_of}
use Rattle.verity_portion.proofs.portion.Portion.new.Given as goal

abbrev pub ghost-past_of : goal.ghost-past_of
ghost-past_of g a = rows_of (facts_of g.S.BlockStore a._store.now)
