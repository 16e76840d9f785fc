use Rattle.std.proofs.Common.{suc, ◌≡◌, ◌+◌, ◌^◌, ap, ◌∙◌, arith}
use Rattle.std.specs.Int.{div_ceil}
use Rattle.verity_digest.specs.Shape.{row_len}
use Rattle.verity_geometry.specs.Geometry.{digests_per_block}
use Rattle.verity_geometry.proofs.Shapes.{level_low}
use Rattle.verity_geometry.proofs.geometry.Geometry.level_len.Goals as goal

pub blocks_below-requires-clause-there : goal.blocks_below-requires-clause-there
blocks_below-requires-clause-there c =
    rw c.per_block.ensures.value (level_low c.args.self.now c.args.level c.per_block.ensures.shaped c.requires)

pub returns-clause-value : goal.returns-clause-value
unfolding row_len
returns-clause-value c =
    let s = c.args.self.now in
    let at : c.args.level + 1 ≡ suc c.args.level = omega arith in
    c.div_ceil.ensures
    ∙ ap (λ n. div_ceil n c.blocks_below.result) c.blocks-blocks.ensures.value
    ∙ ap (λ w. div_ceil s.blocks w) (c.blocks_below.ensures.value ∙ ap (λ k. k ^ (c.args.level + 1)) c.per_block.ensures.value
    ∙ ap (λ e. digests_per_block s ^ e) at)
