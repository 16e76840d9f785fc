use Rattle.std.proofs.Common.{◌≡◌, ℕ, ◌-◌, ◌+◌, ◌≤◌, sym, ap, ◌∙◌, subst, arith}
use Rattle.verity_digest.specs.Shape.{blocks_of_levels, level_len}
use Rattle.verity_digest.proofs.Counts.{blocks_of_levels-more, blocks_of_levels-none, part_most}
use Rattle.verity_geometry.specs.Geometry.{IsShape, digests_per_block}
use Rattle.verity_geometry.proofs.Shapes.{wide, few}
use Rattle.verity_geometry.proofs.geometry.Geometry.blocks_between.Goals as goal

pub overflow_add-blocks : goal.overflow_add-blocks
overflow_add-blocks c =
    let s = c.args.self.now in
    let k : ℕ = digests_per_block s in
    let first : ℕ = c.args.first in
    let level : ℕ = c.loop-level.level in
    let ok : IsShape s = subst IsShape c.self.view_is c.self.invariant in
    let same : first + (level - first) ≡ level = omega arith in
    let more : blocks_of_levels k s.blocks first (level - first + 1) ≡ blocks_of_levels k s.blocks first (level - first) + level_len
    k s.blocks level =
    blocks_of_levels-more k s.blocks first (level - first)
    ∙ ap (λ l. blocks_of_levels k s.blocks first (level - first) + level_len k s.blocks l) same in
    let most : blocks_of_levels k s.blocks first (level - first + 1) ≤ s.blocks =
    part_most k s.blocks first (level - first + 1) (wide s ok) (omega arith) in
    omega (arith, few s ok, c.loop-level.invariant, c.level_len-blocks.ensures.value)

pub loop-level-init : goal.loop-level-init
loop-level-init c =
    let s = c.args.self.now in
    let none : c.args.first - c.args.first ≡ 0 = omega arith in
    sym (ap (λ n. blocks_of_levels (digests_per_block s) s.blocks c.args.first n) none
    ∙ blocks_of_levels-none (digests_per_block s) s.blocks c.args.first)

pub loop-level-preserved : goal.loop-level-preserved
loop-level-preserved c =
    let s = c.args.self.now in
    let k : ℕ = digests_per_block s in
    let first : ℕ = c.args.first in
    let level : ℕ = c.loop-level.level in
    let same : first + (level - first) ≡ level = omega arith in
    let next : level - first + 1 ≡ level + 1 - first = omega arith in
    ap (λ n. n + c.level_len-blocks.result) c.loop-level.invariant
    ∙ ap (λ n. blocks_of_levels k s.blocks first (level - first) + n) (c.level_len-blocks.ensures.value
    ∙ ap (λ l. level_len k s.blocks l) (sym same))
    ∙ sym (blocks_of_levels-more k s.blocks first (level - first))
    ∙ ap (λ n. blocks_of_levels k s.blocks first n) next
