use Rattle.std.proofs.Common.{rules}
use Rattle.verity_slice_report.proofs.sliced.are_stores_of.Goals as goal

pub returns-else-total-eq0 : goal.returns-else-total-eq0
returns-else-total-eq0 g c = search rules depth 0
