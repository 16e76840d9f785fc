-- Salted digests.
use Rattle.std.specs.Prelude.{ℕ, List, ◌++◌, codes}
use Rattle.sha2.specs.Sha256.{sha256}
use Rattle.sha2.specs.Sha512.{sha512}
use Rattle.verity_digest.specs.declared.algorithm.Algorithm.{Algorithm}
use Rattle.verity_digest.specs.declared.algorithm.Algorithm.TheVariants.{Sha256, Sha512}
use Rattle.verity_digest.specs.Tree.{Hashing}

-- the name of an algorithm in the superblock and the table line
abbrev pub name_of : Algorithm → List ℕ
name_of Sha256 = codes "sha256"
name_of Sha512 = codes "sha512"

-- the bytes of a digest
abbrev pub size_of : Algorithm → ℕ
size_of Sha256 = 32
size_of Sha512 = 64

-- the digest of a message
abbrev pub digest_of : Algorithm → List ℕ → List ℕ
digest_of Sha256 message = sha256 message
digest_of Sha512 message = sha512 message

-- an algorithm and a salt
pub record Salted : Type 0 where
  pub algorithm : Algorithm
  pub salt : List ℕ

-- the digest of the salt followed by the block
abbrev pub salted_digest : Salted → List ℕ → List ℕ
salted_digest s block = digest_of s.algorithm (s.salt ++ block)

-- the trees of this algorithm and salt and this size of a hash block
abbrev pub hashing : Salted → ℕ → Hashing
hashing s hash_block_size = record { digest = salted_digest s; digest_size = size_of s.algorithm; block_size = hash_block_size }

-- what a hasher hashes with, and how many digests it made
pub record Hashed : Type 0 where
  pub salted : Salted
  pub hashed : ℕ
