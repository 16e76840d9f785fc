use Rattle.std.proofs.Common.{◌-◌, ◌<◌}
use Rattle.verity_digest.specs.Shape.{blocks_of_levels}
use Rattle.verity_chain.specs.Table.{branching, height}
use Rattle.verity_chain.proofs.tree.Tree.locate.Given as goal

abbrev pub invariant-loop-level : goal.invariant-loop-level
invariant-loop-level g l = record {
  within : l.at < blocks_of_levels (branching l.fn.self) l.fn.self.data_blocks l.level
      (height l.fn.self - l.level);
}
