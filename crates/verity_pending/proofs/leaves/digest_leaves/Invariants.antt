use Rattle.std.proofs.Common.{◌≡◌, ◌+◌, ◌-◌, ◌≤◌, ◌++◌, length, map, take, drop}
use Rattle.verity_pending.specs.Leaves.{hashed_leaf}
use Rattle.verity_pending.proofs.leaves.digest_leaves.Given as goal

abbrev pub invariant-runs : goal.invariant-runs
invariant-runs g l = record {
  within : l.done ≤ length l.initial.leaves;
  made : l.leaves ≡ map (λ child. hashed_leaf l.initial.hasher.salted l.written.entries l.zero child.number) (take l.done l.initial.leaves)
      ++ drop l.done l.initial.leaves;
  salted : l.hasher.salted ≡ l.initial.hasher.salted;
  hashed : l.hasher.hashed ≡ l.initial.hasher.hashed + l.done;
}

abbrev pub decreases-runs : goal.decreases-runs
decreases-runs g l = length l.initial.leaves - l.done
