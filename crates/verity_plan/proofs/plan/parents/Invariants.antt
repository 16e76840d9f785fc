use Rattle.std.proofs.Common.{◌≡◌, ◌/◌, eqb, map, take}
use Rattle.std.specs.List.{dedup}
use Rattle.verity_plan.proofs.plan.parents.Given as goal

abbrev pub invariant-loop-c : goal.invariant-loop-c
invariant-loop-c g l = l.up.items ≡ dedup eqb (map (λ child. child.number / l.per_block) (take l.c l.children.items))
