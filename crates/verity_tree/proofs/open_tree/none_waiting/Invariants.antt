use Rattle.std.proofs.Common.{◌≡◌, replicate}
use Rattle.verity_tree.specs.Coming.{with_room}
use Rattle.verity_tree.proofs.open_tree.none_waiting.Given as goal

abbrev pub invariant-loop : goal.invariant-loop
invariant-loop g l = l.waiting.items ≡ replicate l.counter (with_room l.fn.geometry.hash_size l.fn.room)
