use Rattle.std.proofs.Common.{arith}
use Rattle.verity_pull.proofs.LayLemmas.{end_few}
use Rattle.cli_pull.proofs.pulling.source_end.Goals as goal

pub overflow_add-result : goal.overflow_add-result
overflow_add-result c = omega (arith, end_few c.args.tree.now c.table.ensures.allowed, c.end.ensures, c.hash_start_block-2.ensures.bounds)
