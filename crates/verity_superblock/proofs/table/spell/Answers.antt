use Rattle.std.proofs.Common.{◌≡◌, ◌∷◌, [], ℕ, List, subst, ap, ◌∙◌, sym}
use Rattle.std.specs.Prelude.{IfOk, string_bytes, codes}
use Rattle.std.specs.List.{join_with_byte}
use Rattle.std.specs.Fmt.{decimal}
use Rattle.hex.specs.Hex.{encode_lower}
use Rattle.verity_digest.specs.Hash.{name_of}
use Rattle.verity_superblock.specs.Line.{salt_text}
use Rattle.verity_superblock.proofs.Canonical.{spelt-from}
use Rattle.verity_superblock.proofs.table.spell.Goals as goal

pub returns : goal.returns
returns g c =
    let paths : string_bytes c.in_ok-paths.paths ≡ join_with_byte 32 (codes "1" ∷ c.args.table.now.dev ∷ c.args.table.now.hash_dev ∷ []) =
    c.in_ok-paths.ensures ∙ ap (λ (x : List ℕ). join_with_byte 32 (codes "1" ∷ x ∷ c.hash_dev.result.now ∷ [])) c.dev.ensures
    ∙ ap (λ (x : List ℕ). join_with_byte 32 (codes "1" ∷ c.args.table.now.dev ∷ x ∷ [])) c.hash_dev.ensures in
    let numbers : string_bytes c.in_ok-numbers.numbers ≡ join_with_byte 32 (decimal c.args.table.now.data_block_size ∷ decimal
    c.args.table.now.hash_block_size ∷ decimal c.args.table.now.data_blocks ∷ decimal c.args.table.now.hash_start_block ∷ []) =
    c.in_ok-numbers.ensures
    ∙ ap (λ (n : ℕ). join_with_byte 32 (decimal n ∷ decimal c.hash_block_size.result ∷ decimal c.data_blocks.result ∷ decimal
    c.hash_start_block.result ∷ [])) c.data_block_size.ensures.value
    ∙ ap (λ (n : ℕ). join_with_byte 32 (decimal c.args.table.now.data_block_size ∷ decimal n ∷ decimal c.data_blocks.result ∷
    decimal c.hash_start_block.result ∷ [])) c.hash_block_size.ensures.value
    ∙ ap (λ (n : ℕ). join_with_byte 32 (decimal c.args.table.now.data_block_size ∷ decimal c.args.table.now.hash_block_size ∷
    decimal n ∷ decimal c.hash_start_block.result ∷ [])) c.data_blocks.ensures.value
    ∙ ap (λ (n : ℕ). join_with_byte 32 (decimal c.args.table.now.data_block_size ∷ decimal c.args.table.now.hash_block_size ∷
    decimal c.args.table.now.data_blocks ∷ decimal n ∷ [])) c.hash_start_block.ensures.value in
    let named = c.name.ensures ∙ ap name_of c.algorithm.ensures in
    let rooted = c.as_str.ensures.value ∙ c.in_ok-root.ensures ∙ ap encode_lower (c.bytes.ensures ∙ c.root.ensures) in
    let salted = c.as_str-2.ensures.value ∙ c.in_ok-salt.ensures ∙ ap salt_text c.salt.ensures in
    let digests : string_bytes c.in_ok-digests.digests ≡ join_with_byte 32 (name_of c.args.table.now.algorithm ∷ encode_lower
    c.args.table.now.root ∷ salt_text c.args.table.now.salt ∷ []) =
    c.in_ok-digests.ensures ∙ ap (λ (x : List ℕ). join_with_byte 32 (x ∷ c.as_str.result.now ∷ c.as_str-2.result.now ∷ [])) named
    ∙ ap (λ (x : List ℕ). join_with_byte 32 (name_of c.args.table.now.algorithm ∷ x ∷ c.as_str-2.result.now ∷ [])) rooted
    ∙ ap (λ (x : List ℕ). join_with_byte 32 (name_of c.args.table.now.algorithm ∷ encode_lower c.args.table.now.root ∷ x ∷ [])) salted in
    subst (λ (line : List ℕ). IfOk c.join_three-3.result (λ s. string_bytes s ≡ line))
    (spelt-from c.args.table.now c.as_str-3.result.now c.as_str-4.result.now c.as_str-5.result.now (c.as_str-3.ensures.value
    ∙ paths) (c.as_str-4.ensures.value ∙ numbers) (c.as_str-5.ensures.value ∙ digests))
    c.join_three-3.ensures
