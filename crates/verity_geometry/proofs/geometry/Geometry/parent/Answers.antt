use Rattle.std.proofs.Common.{ℕ, suc, ◌≡◌, ◌+◌, ◌/◌, ◌<◌, subst, arith}
use Rattle.verity_digest.proofs.Counts.{row_len_above}
use Rattle.verity_geometry.specs.Geometry.{digests_per_block, len_of}
use Rattle.verity_geometry.proofs.geometry.Geometry.parent.Goals as goal

pub returns-clause-index_within : goal.returns-clause-index_within
returns-clause-index_within c =
    let s = c.args.self.now in
    let k : ℕ = digests_per_block s in
    let is = c.per_block-per_block.ensures in
    let some : 0 < k = omega (arith, is.value, is.least) in
    let at : suc c.args.level ≡ c.args.level + 1 = omega arith in
    let P : ℕ → Type 0 = λ l. c.args.index / k < len_of s l in
    rw is.value (subst P at (row_len_above k s.blocks (suc c.args.level) c.args.index some c.requires.index))
