use Rattle.std.proofs.Common.{arith, length, refl}
use Rattle.verity_digest_lanes.proofs.Parts.{filled}
use Rattle.verity_digest_lanes.proofs.pieces.fill.Goals as goal

pub returns : goal.returns
returns c =
    filled c.args.room.now c.pour-salted.new.room c.pour-blocked.new.room c.pour-padded.new.room c.args.salt.now c.args.block.now
    c.args.pad.now
    (length c.args.room.now) c.args.from c.saturating_sub-after_salt.result c.saturating_sub-after_block.result c.pour-salted.result
    c.pour-blocked.result c.pour-padded.result
    c.saturating_sub-after_salt.ensures c.saturating_sub-after_block.ensures refl (omega arith) (omega arith) (omega arith)
    (omega (arith, c.pour-padded.ensures.most)) c.requires
    c.pour-salted.ensures.bytes c.pour-blocked.ensures.bytes c.pour-padded.ensures.bytes
