use Rattle.std.proofs.Common.{◌≤◌, ◌*◌, vec_len, rules, arith}
use Rattle.std.proofs.Math.Nat.{mul-le-mul_right}
use Rattle.std.proofs.lemmas.Nat.{div-add-mod'}
use Rattle.verity_profile.specs.Profile.{IsBlockSize}
use Rattle.verity_profile.proofs.Bounds.{block_size_low}
use Rattle.os_host.proofs.Counts.{counted}
use Rattle.test_system.proofs.memory.first_blocks.Goals as goal

pub returns-clause-count : goal.returns-clause-count
returns-clause-count c =
    let size = c.args.size in
    let all = vec_len c.args.bytes in
    let is_size : IsBlockSize size = search rules in
    let low = block_size_low size is_size in
    let least = mul-le-mul_right size c.if-blocks-len.false in
    let parts = div-add-mod' all size in
    let most : c.args.blocks * size ≤ all = omega (arith, least, parts, c.len.ensures) in
    counted c.new.result _ size c.args.blocks (vec_len c.truncate.new.self) (omega (arith, low))
    (omega (arith, most, c.truncate.ensures.len)) c.new.ensures.len
