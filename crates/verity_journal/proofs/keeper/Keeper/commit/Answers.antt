use Rattle.std.proofs.Common.{rules}
use Rattle.verity_journal.proofs.Heads.{split_closed}
use Rattle.verity_journal.proofs.keeper.Keeper.commit.Goals as goal

pub commit_through-requires-clause-settled : goal.commit_through-requires-clause-settled
commit_through-requires-clause-settled g c = record { durable = search rules; closed = split_closed _ (search rules) }
