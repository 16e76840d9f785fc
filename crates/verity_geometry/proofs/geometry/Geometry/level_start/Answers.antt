use Rattle.std.proofs.Common.{◌≡◌, suc, ◌-◌, ◌+◌, ap, ◌∙◌, arith}
use Rattle.verity_digest.specs.Shape.{blocks_of_levels}
use Rattle.verity_digest.proofs.Counts.{level_within}
use Rattle.verity_geometry.specs.Geometry.{digests_per_block, levels_of}
use Rattle.verity_geometry.proofs.Shapes.{total_few, few}
use Rattle.verity_geometry.proofs.geometry.Geometry.level_start.Goals as goal

pub returns-clause-value : goal.returns-clause-value
returns-clause-value c =
    let s = c.args.self.now in
    let at : c.args.level + 1 ≡ suc c.args.level = omega arith in
    c.blocks_between.ensures
    ∙ ap (λ L. blocks_of_levels (digests_per_block s) s.blocks (c.args.level + 1) (L - (c.args.level + 1))) c.levels-levels.ensures.value
    ∙ ap (λ l. blocks_of_levels (digests_per_block s) s.blocks l (levels_of s - l)) at

pub returns-clause-within : goal.returns-clause-within
returns-clause-within c =
    let s = c.args.self.now in
    rw (returns-clause-value c) (level_within (digests_per_block s) s.blocks c.args.level c.requires)

pub returns-clause-few : goal.returns-clause-few
returns-clause-few c =
    let s = c.args.self.now in
    let within = returns-clause-within c in
    let most = total_few s c.levels-levels.ensures.shaped in
    let count = few s c.levels-levels.ensures.shaped in
    omega arith
