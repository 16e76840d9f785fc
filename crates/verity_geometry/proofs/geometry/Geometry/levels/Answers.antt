use Rattle.std.proofs.Common.{ap, ◌∙◌, arith}
use Rattle.verity_digest.specs.Shape.{level_count}
use Rattle.verity_geometry.specs.Geometry.{digests_per_block}
use Rattle.verity_geometry.proofs.Shapes.{levels_few, levels_few_sha256}
use Rattle.verity_geometry.proofs.geometry.Geometry.levels.Goals as goal

pub returns-clause-value : goal.returns-clause-value
returns-clause-value c =
    c.count_levels.ensures
    ∙ ap (λ k. level_count k c.blocks-blocks.result) c.per_block.ensures.value
    ∙ ap (λ n. level_count (digests_per_block c.args.self.now) n) c.blocks-blocks.ensures.value

pub returns-clause-most : goal.returns-clause-most
returns-clause-most c = let most = levels_few c.args.self.now c.per_block.ensures.shaped in omega (arith, returns-clause-value c)

pub returns-clause-most_sha256 : goal.returns-clause-most_sha256
returns-clause-most_sha256 c e = let most = levels_few_sha256 c.args.self.now c.per_block.ensures.shaped e in
    omega (arith, returns-clause-value c)
