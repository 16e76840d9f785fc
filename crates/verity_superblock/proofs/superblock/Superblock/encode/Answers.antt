use Rattle.std.proofs.Common.{◌≡◌, ℕ, List, length, subst, sym, ap, ◌∙◌}
use Rattle.byteorder.specs.Endian.{little_bytes}
use Rattle.verity_digest.specs.Hash.{name_of}
use Rattle.verity_superblock.specs.Superblock.{Params, Volume, superblock, IsPut}
use Rattle.verity_superblock.proofs.Fields.{puts-superblock}
use Rattle.verity_superblock.proofs.superblock.Superblock.encode.Goals as goal

pub returns : goal.returns
returns g c =
    let p : Params = record {
      algorithm = c.self.inside.algorithm;
      data_block_size = c.self.inside.data_block_size;
      hash_block_size = c.self.inside.hash_block_size;
      salt = c.self.inside.salt;
      uuid = c.self.inside.uuid;
    } in
    let n : ℕ = c.self.inside.data_blocks in
    let is : c.put-10.new.block ≡ superblock p n = puts-superblock p n _ _ _ _ _ _ _ _ _ c.put-10.new.block c.self.invariant (record {
      signature = c.put.ensures;
      version = subst (λ (f : List ℕ). IsPut c.put.new.block 8 f c.put-2.new.block) c.little_u32.ensures c.put-2.ensures;
      hash_type = subst (λ (f : List ℕ). IsPut c.put-2.new.block 12 f c.put-3.new.block) c.little_u32-2.ensures c.put-3.ensures;
      uuid = subst (λ (f : List ℕ). IsPut c.put-3.new.block 16 f c.put-4.new.block) c.as_bytes.ensures c.put-4.ensures;
      algorithm = subst (λ (f : List ℕ). IsPut c.put-4.new.block 32 f c.put-5.new.block) (c.as_bytes-2.ensures.value
          ∙ c.name.ensures) c.put-5.ensures;
      data_size = subst (λ (f : List ℕ). IsPut c.put-5.new.block 64 f c.put-6.new.block) c.little_u32-3.ensures c.put-6.ensures;
      hash_size = subst (λ (f : List ℕ). IsPut c.put-6.new.block 68 f c.put-7.new.block) c.little_u32-4.ensures c.put-7.ensures;
      count = subst (λ (f : List ℕ). IsPut c.put-7.new.block 72 f c.put-8.new.block) c.little_u64.ensures c.put-8.ensures;
      salt_size = subst (λ (f : List ℕ). IsPut c.put-8.new.block 80 f c.put-9.new.block) (c.little_u16.ensures
          ∙ ap (λ (s : List ℕ). little_bytes 2 (length s)) c.bytes-salt.ensures.value) c.put-9.ensures;
      salt = subst (λ (f : List ℕ). IsPut c.put-9.new.block 88 f c.put-10.new.block) c.bytes-salt.ensures.value c.put-10.ensures;
    }) in
    is ∙ ap (λ (v : Volume). superblock v.params v.data_blocks) c.self.view_is
