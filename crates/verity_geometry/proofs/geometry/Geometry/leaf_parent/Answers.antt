use Rattle.std.proofs.Common.{◌<◌, arith}
use Rattle.verity_digest.proofs.Counts.{row_len_above, row_len-zero}
use Rattle.verity_geometry.specs.Geometry.{digests_per_block}
use Rattle.verity_geometry.proofs.geometry.Geometry.leaf_parent.Goals as goal

pub returns-clause-index_within : goal.returns-clause-index_within
returns-clause-index_within c =
    let s = c.args.self.now in
    let k = c.per_block-per_block.ensures in
    let some : 0 < digests_per_block s = omega (arith, k.value, k.least) in
    let all = row_len-zero (digests_per_block s) s.blocks in
    rw k.value (row_len_above (digests_per_block s) s.blocks 0 c.args.n some (omega (arith, c.requires.within)))
