use Rattle.verity_digest.proofs.TreeLaws
use Rattle.verity_digest.proofs.laws.goes_by_rows.Goals as goal

pub returns : goal.returns
returns c = TreeLaws.goes_by_rows
