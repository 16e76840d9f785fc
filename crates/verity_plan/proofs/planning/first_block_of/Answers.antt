use Rattle.std.proofs.Common.{◌≡◌, ℕ, ◌-◌, List, ◌++◌, length, vec_len, take, replicate, ap, ◌∙◌, arith, rules}
use Rattle.std.proofs.lemmas.List.{take_all}
use Rattle.verity_profile.proofs.Bounds.{block_size_low}
use Rattle.verity_superblock.specs.Superblock.{superblock}
use Rattle.verity_superblock.proofs.Fields.{length-superblock}
use Rattle.verity_plan.proofs.planning.first_block_of.Goals as goal

pub returns-in-Ok-resize-clause-value : goal.returns-in-Ok-resize-clause-value
returns-in-Ok-resize-clause-value g c =
    let v = c.args.superblock.now in
    let low = block_size_low v.params.hash_block_size c.facts.ensures.hash_size in
    let len = length-superblock v.params v.data_blocks c.facts.ensures in
    let size : ℕ = v.params.hash_block_size in
    let bytes : List ℕ = superblock v.params v.data_blocks in
    let copied : c.in-Ok.block.items ≡ c.encode.result = search rules in
    let is : c.in-Ok.block.items ≡ bytes = copied ∙ c.encode.ensures in
    let count : vec_len c.in-Ok.block ≡ length bytes = c.in-Ok.ensures.len ∙ ap length c.encode.ensures in
    let whole : take size bytes ≡ bytes = take_all size bytes (omega arith) in
    c.in-Ok-resize.ensures.items
    ∙ (λ i. take (c.hash_block_size.ensures.value i) (is i) ++ replicate (c.hash_block_size.ensures.value i - count i) 0)
    ∙ ap (λ front. front ++ replicate (size - length bytes) 0) whole

pub returns-in-Ok-resize-clause-size : goal.returns-in-Ok-resize-clause-size
returns-in-Ok-resize-clause-size g c =
    let v = c.args.superblock.now in
    let low = block_size_low v.params.hash_block_size c.facts.ensures.hash_size in
    let len = length-superblock v.params v.data_blocks c.facts.ensures in
    let grown = c.in-Ok-resize.ensures.len in
    omega arith
