use Rattle.std.proofs.Common.{◌≡◌, ◌-◌, ap, ◌∙◌, arith}
use Rattle.verity_digest.specs.Shape.{blocks_of_levels}
use Rattle.verity_geometry.specs.Geometry.{digests_per_block, levels_of}
use Rattle.verity_geometry.proofs.Shapes.{total_few, few}
use Rattle.verity_geometry.proofs.geometry.Geometry.total.Goals as goal

pub returns-clause-value : goal.returns-clause-value
returns-clause-value c =
    let s = c.args.self.now in
    let all : levels_of s - 0 ≡ levels_of s = omega arith in
    c.blocks_between.ensures
    ∙ ap (λ L. blocks_of_levels (digests_per_block s) s.blocks 0 (L - 0)) c.levels-levels.ensures.value
    ∙ ap (λ m. blocks_of_levels (digests_per_block s) s.blocks 0 m) all

pub returns-clause-most : goal.returns-clause-most
returns-clause-most c =
    let most = total_few c.args.self.now c.levels-levels.ensures.shaped in omega (arith, returns-clause-value c)

pub returns-clause-few : goal.returns-clause-few
returns-clause-few c =
    let most = total_few c.args.self.now c.levels-levels.ensures.shaped in
    let count = few c.args.self.now c.levels-levels.ensures.shaped in
    omega (arith, returns-clause-value c)
