use Rattle.std.proofs.Common.{◌≡◌, arith, sym, ap, ◌∙◌}
use Rattle.verity_digest.specs.Shape.{row_len}
use Rattle.verity_digest.proofs.Counts.{row_len-zero}
use Rattle.verity_geometry.specs.Geometry.{digests_per_block}
use Rattle.verity_plan.proofs.tree.Change.digests_in.Goals as goal

pub returns-then-level-eq0 : goal.returns-then-level-eq0
returns-then-level-eq0 c =
    let k = digests_per_block c.args.self.now.new in
    let n = c.args.self.now.new.blocks in
    let none : 0 ≡ c.args.level = omega arith in
    c.blocks-then-level-eq0.ensures.value ∙ sym (row_len-zero k n) ∙ ap (λ l. row_len k n l) none
