use Rattle.verity_journal.proofs.Heads.{begun_is}
use Rattle.verity_journal.proofs.head.is_begun.Goals as goal

pub returns : goal.returns
returns c = begun_is c.args.bytes.now c.starts_with.result c.starts_with.ensures.value
