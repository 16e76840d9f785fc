use Rattle.std.proofs.Common.{◌≤◌, ◌-◌, ◌^◌, arith}
use Rattle.std.proofs.Math.Nat.{mul-le-mul}
use Rattle.verity_profile.proofs.Bounds.{block_size_high}
use Rattle.cli_line_file.proofs.looking.superblock_by.Goals as goal

pub overflow_mul-place : goal.overflow_mul-place
overflow_mul-place g c =
    let size : c.hash_block_size.result ≤ 524288 = block_size_high c.hash_block_size.result c.hash_block_size.ensures.bounds in
    let start : c.hash_start_block-start.result - 1 ≤ 2 ^ 40 = omega (arith, c.hash_start_block-start.ensures.bounds) in
    omega (arith, mul-le-mul start size)
