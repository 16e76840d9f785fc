use Rattle.std.proofs.Common.{◌≡◌, length, ◌∙◌, arith}
use Rattle.std.proofs.lemmas.List.{take_all, drop_all}
use Rattle.verity_digest.proofs.digest.Digest.from_wide.Goals as goal

pub invariant_of-result : goal.invariant_of-result
invariant_of-result c =
    let len : length c.copy_from_slice.new.self ≡ 64 = c.copy_from_slice.ensures.len in
    record { len = len; free = drop_all 64 c.copy_from_slice.new.self (omega arith) }

pub returns : goal.returns
returns c =
    let len : length c.copy_from_slice.new.self ≡ 64 = c.copy_from_slice.ensures.len in
    take_all 64 c.copy_from_slice.new.self (omega arith) ∙ c.copy_from_slice.ensures.after
