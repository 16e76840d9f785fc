-- The superblock of a hash device: cryptsetup's verity on-disk format, version 1. Numbers are
-- written the lowest byte first.
use Rattle.std.specs.Prelude.{◌≡◌, ℕ, ◌+◌, ◌-◌, ◌≤◌, List, [], ◌∷◌, ◌++◌, length, take, drop, replicate, codes}
use Rattle.std.specs.List.{concat}
use Rattle.byteorder.specs.Endian.{little_bytes}
use Rattle.verity_digest.specs.declared.algorithm.Algorithm.{Algorithm}
use Rattle.verity_digest.specs.Hash.{Salted, name_of}
use Rattle.verity_profile.specs.Profile.{IsBlockSize, IsBlockCount}

-- the parameters of a volume, but for its count of data blocks
pub record Params : Type 0 where
  pub algorithm : Algorithm
  pub data_block_size : ℕ
  pub hash_block_size : ℕ
  pub salt : List ℕ
  pub uuid : List ℕ

-- what its blocks are hashed with
abbrev pub salted : Params → Salted
salted p = record { algorithm = p.algorithm; salt = p.salt }

-- bytes, and zeros up to a size
abbrev pub zero_filled : ℕ → List ℕ → List ℕ
zero_filled size bytes = bytes ++ replicate (size - length bytes) 0

-- the fields of the superblock of n data blocks, in their order: signature, version, hash type, UUID,
-- algorithm, data block size, hash block size, data blocks, salt size, a pad, salt, a pad
unfoldable pub fields : Params → ℕ → List (List ℕ)
fields p n =
    zero_filled 8 (codes "verity")
    ∷ little_bytes 4 1
    ∷ little_bytes 4 1
    ∷ p.uuid
    ∷ zero_filled 32 (name_of p.algorithm)
    ∷ little_bytes 4 p.data_block_size
    ∷ little_bytes 4 p.hash_block_size
    ∷ little_bytes 8 n
    ∷ little_bytes 2 (length p.salt)
    ∷ replicate 6 0
    ∷ zero_filled 256 p.salt
    ∷ replicate 168 0
    ∷ []

-- the superblock of these parameters and n data blocks
abbrev pub superblock : Params → ℕ → List ℕ
superblock p n = concat (fields p n)

-- the field stands in the block at this offset, and all else is as it was
abbrev pub IsPut : List ℕ → ℕ → List ℕ → List ℕ → Type 0
IsPut old at field new = new ≡ take at old ++ (field ++ drop (at + length field) old)

-- the parameters and the count are of the profile
pub record IsProfile (p : Params) (n : ℕ) : Type 0 where
  pub data_size : IsBlockSize p.data_block_size
  pub hash_size : IsBlockSize p.hash_block_size
  pub count : IsBlockCount n
  pub salt : length p.salt ≤ 256
  pub uuid : length p.uuid ≡ 16

-- a volume: its parameters, and its count of data blocks
pub record Volume : Type 0 where
  pub params : Params
  pub data_blocks : ℕ
