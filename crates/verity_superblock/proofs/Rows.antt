-- The worked superblock by computation: data blocks of 1024 bytes, hash blocks of 512, one data block, the
-- empty salt.
use Rattle.std.proofs.Common.{◌≡◌, ℕ, List, [], ◌∷◌, ◌++◌, replicate, refl, Some, None}
use Rattle.std.specs.Prelude.{codes}
use Rattle.verity_digest.specs.declared.algorithm.Algorithm.TheVariants.{Sha256}
use Rattle.verity_superblock.specs.Superblock.{Params, superblock, fields}

abbrev uuid : List ℕ
uuid = 0x01 ∷ 0x23 ∷ 0x45 ∷ 0x67 ∷ 0x89 ∷ 0xab ∷ 0xcd ∷ 0xef ∷ 0x01 ∷ 0x23 ∷ 0x45 ∷ 0x67 ∷ 0x89 ∷ 0xab ∷ 0xcd ∷ 0xef ∷ []

-- the signature, the version and the hash type
abbrev head : List ℕ
head = 0x76 ∷ 0x65 ∷ 0x72 ∷ 0x69 ∷ 0x74 ∷ 0x79 ∷ 0 ∷ 0 ∷ 1 ∷ 0 ∷ 0 ∷ 0 ∷ 1 ∷ 0 ∷ 0 ∷ 0 ∷ []

abbrev name : List ℕ
name = 0x73 ∷ 0x68 ∷ 0x61 ∷ 0x32 ∷ 0x35 ∷ 0x36 ∷ []

-- the block sizes and the count
abbrev sizes : List ℕ
sizes = 0 ∷ 4 ∷ 0 ∷ 0 ∷ 0 ∷ 2 ∷ 0 ∷ 0 ∷ 1 ∷ 0 ∷ 0 ∷ 0 ∷ 0 ∷ 0 ∷ 0 ∷ 0 ∷ []

worked : superblock (record { algorithm = Sha256; data_block_size = 1024; hash_block_size = 512; salt = []; uuid = uuid }) 1
    ≡ head ++ uuid ++ name ++ replicate 26 0 ++ sizes ++ replicate 432 0
unfolding fields
worked = refl
