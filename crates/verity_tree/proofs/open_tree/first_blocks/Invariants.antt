use Rattle.std.proofs.Common.{◌≡◌, replicate}
use Rattle.verity_tree.specs.Climb.{empty}
use Rattle.verity_tree.proofs.open_tree.first_blocks.Given as goal

abbrev pub invariant-loop : goal.invariant-loop
invariant-loop g l = l.blocks.items ≡ replicate l.counter (empty l.fn.geometry.hash_size l.fn.geometry.digest_size)
