use Rattle.std.proofs.Common.{◌≡◌, ◌+◌, ◌-◌, ◌∙◌, ap, arith, drop, take}
use Rattle.verity_digest_lanes.proofs.Parts.{poured, poured_none}
use Rattle.verity_digest_lanes.proofs.pieces.pour.Goals as goal

pub returns-then-offset-source-clause-bytes : goal.returns-then-offset-source-clause-bytes
returns-then-offset-source-clause-bytes c = poured_none c.args.room.now c.args.source.now c.args.used c.args.offset c.requires (omega arith)

pub returns-clause-bytes : goal.returns-clause-bytes
returns-clause-bytes c =
    let width : c.args.offset + c.min-count.result - c.args.offset ≡ c.min-count.result = omega arith in
    poured c.args.room.now c.copy_from_slice.new.self c.args.source.now c.args.used c.args.offset c.min-count.result _ c.requires
    (omega arith) (omega (arith, c.min-count.ensures))
    (c.copy_from_slice.ensures.after ∙ ap (λ k. take k (drop c.args.offset c.args.source.now)) width)
