use Rattle.std.proofs.Common.{◌≡◌, sym, subst}
use Rattle.verity_profile.specs.Profile.{IsBlockSize, IsBlockCount}
use Rattle.verity_superblock.proofs.Refusals.{size_refusal-count}
use Rattle.verity_superblock.proofs.superblock.read_sizes.Goals as goal

pub returns-then-not-is_block_count-clause-refused :
    goal.returns-then-not-is_block_count-clause-refused
returns-then-not-is_block_count-clause-refused c =
    let data_sized = subst (λ n. IsBlockSize n) c.read_u32-data_block_size.ensures
    (c.is_block_size.ensures.0 c.if-not-is_block_size.false) in
    let hash_sized = subst (λ n. IsBlockSize n) c.read_u32-hash_block_size.ensures (c.is_block_size-else-not-is_block_size.ensures.0
    c.if-not-is_block_size-2.false) in
    sym (size_refusal-count c.args.bytes.now data_sized hash_sized (λ counted.
    let told = c.is_block_count.ensures.1 (subst (λ n. IsBlockCount n) (sym c.read_u64-data_blocks.ensures) counted) in
    let refused = c.if-not-is_block_count.true in cc))
