use Rattle.verity_digest.proofs.TreeLaws
use Rattle.verity_digest.proofs.laws.names_by_rows.Goals as goal

pub returns : goal.returns
returns c = TreeLaws.names_by_rows
