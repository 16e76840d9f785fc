use Rattle.std.proofs.Common.{◌≡◌, length, replicate, ◌∙◌, arith}
use Rattle.std.proofs.lemmas.List.{take_at, drop_at, length-append}
use Rattle.verity_digest.proofs.digest.Digest.from_bytes.Goals as goal

pub invariant_of-result : goal.invariant_of-result
invariant_of-result c =
    let front = c.copy_from_slice.new.self in
    let len : length front ≡ 32 = c.copy_from_slice.ensures.len in
    record { len = omega (arith, length-append front (replicate 32 0)); free = drop_at front (replicate 32 0) 32 len }

pub returns : goal.returns
returns c =
    let front = c.copy_from_slice.new.self in
    let len : length front ≡ 32 = c.copy_from_slice.ensures.len in
    take_at front (replicate 32 0) 32 len ∙ c.copy_from_slice.ensures.after
