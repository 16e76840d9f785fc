use Rattle.std.proofs.Common.{◌≡◌, ◌-◌}
use Rattle.verity_digest.specs.Shape.{blocks_of_levels}
use Rattle.verity_geometry.specs.Geometry.{digests_per_block}
use Rattle.verity_geometry.proofs.geometry.Geometry.blocks_between.Given as goal

abbrev pub invariant-loop-level : goal.invariant-loop-level
invariant-loop-level l = l.blocks ≡ blocks_of_levels (digests_per_block l.self) l.self.blocks l.first (l.level - l.first)
