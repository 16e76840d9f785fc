use Rattle.std.proofs.Common.{subst}
use Rattle.verity_check.specs.Cache.{IsKept}
use Rattle.verity_check.proofs.data_cache.recall_block.Goals as goal

pub returns-in-Some-clause-missing : goal.returns-in-Some-clause-missing
returns-in-Some-clause-missing g c = λ no b kept.
    c.copy_block.ensures.missing no b (subst (λ d. IsKept d c.args.n b) c.in-Some.is kept)
