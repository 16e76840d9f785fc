use Rattle.std.proofs.Common.{◌+◌, ◌∙◌, ◌++◌, ap₂, length, arith}
use Rattle.std.proofs.lemmas.Slice.{take-put_mid}
use Rattle.verity_digest_lanes.proofs.Parts.{padding_front}
use Rattle.verity_digest_lanes.proofs.pieces.padding.Goals as goal

pub returns-clause-value : goal.returns-clause-value
returns-clause-value c =
    let z = c.args.zeros in
    take-put_mid (z + 1) _ _ c.copy_from_slice.new.self (z + 1 + length c.args.bits.now) (omega arith) (omega arith)
    ∙ ap₂ (λ x y. x ++ y) (padding_front 0x80 0 z 143 (omega arith)) c.copy_from_slice.ensures.after
