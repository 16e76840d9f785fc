use Rattle.std.proofs.Common.{ℕ, suc, ◌≡◌, ◌+◌, ◌/◌, ◌<◌, ◌^◌, sym, ap, ◌∙◌, subst, arith}
use Rattle.verity_digest.proofs.Growth.{above_within}
use Rattle.verity_geometry.specs.Geometry.{digests_per_block, len_of}
use Rattle.verity_geometry.proofs.Shapes.{level_low, branching}
use Rattle.verity_geometry.proofs.geometry.Geometry.above.Goals as goal

pub blocks_below-span-requires-clause-there : goal.blocks_below-span-requires-clause-there
blocks_below-span-requires-clause-there c =
    rw c.per_block.ensures.value (level_low c.args.self.now c.args.level c.per_block.ensures.shaped c.requires.level)

pub returns-clause-value : goal.returns-clause-value
returns-clause-value c =
    let s = c.args.self.now in
    let at : c.args.level + 1 ≡ suc c.args.level = omega arith in
    ap (λ w. c.args.n / w) (c.blocks_below-span.ensures.value ∙ ap (λ k. k ^ (c.args.level + 1)) c.per_block.ensures.value
    ∙ ap (λ e. digests_per_block s ^ e) at)

pub returns-clause-within : goal.returns-clause-within
returns-clause-within c =
    let s = c.args.self.now in
    let some : 0 < digests_per_block s = (let two = branching s c.per_block.ensures.shaped in omega arith) in
    let P : ℕ → Type 0 = λ i. i < len_of s c.args.level in
    subst P (sym (returns-clause-value c)) (above_within (digests_per_block s) s.blocks c.args.level c.args.n some c.requires.within)
