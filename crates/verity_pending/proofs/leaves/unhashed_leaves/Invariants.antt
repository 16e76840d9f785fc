use Rattle.std.proofs.Common.{◌≡◌, ◌++◌, map}
use Rattle.verity_pending.specs.Leaves.{numbers_in, unhashed}
use Rattle.verity_pending.proofs.leaves.unhashed_leaves.Given as goal

abbrev pub invariant-loop-n : goal.invariant-loop-n
invariant-loop-n g l = l.leaves.items ++ map unhashed (numbers_in l.n-iterator) ≡ map unhashed (numbers_in l.written.entries)
