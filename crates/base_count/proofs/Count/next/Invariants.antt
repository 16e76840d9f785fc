use Rattle.std.proofs.Common.{◌+◌}
use Rattle.base_count.proofs.Count.next.Given as goal

abbrev pub ghost-next_after : goal.ghost-next_after
ghost-next_after a = a._count.now.steps + 1
