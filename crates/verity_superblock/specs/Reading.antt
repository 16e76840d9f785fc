-- What bytes read as a superblock, and which are refused.
use Rattle.std.specs.Prelude.{◌≡◌, ℕ, ◌+◌, ◌≤◌, Bool, not, ◌&&◌, ◌||◌, ◌==◌, nat_eq, nat_lt, nat_le, List, length, codes}
use Rattle.std.specs.Prelude.{slice_range, if◌then◌else◌, Option, Some, None}
use Rattle.std.specs.Option.{option_or}
use Rattle.std.specs.Cmp.Lexicographic.{pointwise}
use Rattle.std.specs.List.{before_first}
use Rattle.byteorder.specs.Endian.{little_number}
use Rattle.verity_digest.specs.Hash.{name_of}
use Rattle.verity_digest.specs.declared.algorithm.Algorithm.TheVariants.{Sha256, Sha512}
use Rattle.verity_profile.specs.Profile.{is_block_size, is_block_count}
use Rattle.verity_superblock.specs.Superblock.{Params, zero_filled}
use Rattle.verity_superblock.specs.declared.faults.SuperFault.{SuperFault}
use Rattle.verity_superblock.specs.declared.faults.SuperFault.TheVariants.{Short, Signature, Version, HashType, Algorithm, BadSize}
use Rattle.verity_superblock.specs.declared.faults.SuperFault.TheVariants.{BadCount, SaltSize}

-- the named fields, by their offsets
abbrev pub signature : List ℕ → List ℕ
signature bytes = slice_range bytes 0 8

abbrev pub version : List ℕ → ℕ
version bytes = little_number 4 (slice_range bytes 8 12)

abbrev pub hash_type : List ℕ → ℕ
hash_type bytes = little_number 4 (slice_range bytes 12 16)

abbrev pub uuid : List ℕ → List ℕ
uuid bytes = slice_range bytes 16 32

-- the algorithm's name: its field up to the first zero byte
abbrev pub algorithm_name : List ℕ → List ℕ
algorithm_name bytes = before_first (λ b. b == 0) (slice_range bytes 32 64)

abbrev pub data_block_size : List ℕ → ℕ
data_block_size bytes = little_number 4 (slice_range bytes 64 68)

abbrev pub hash_block_size : List ℕ → ℕ
hash_block_size bytes = little_number 4 (slice_range bytes 68 72)

abbrev pub data_blocks : List ℕ → ℕ
data_blocks bytes = little_number 8 (slice_range bytes 72 80)

abbrev pub salt_size : List ℕ → ℕ
salt_size bytes = little_number 2 (slice_range bytes 80 82)

-- the salt: as many bytes of its field as the salt size says
abbrev pub salt : List ℕ → List ℕ
salt bytes = slice_range bytes 88 (88 + salt_size bytes)

-- the named fields of the first 512 bytes are these; all else may be anything
pub record Reads (bytes : List ℕ) (p : Params) (n : ℕ) : Type 0 where
  pub whole : 512 ≤ length bytes
  pub signature : signature bytes ≡ zero_filled 8 (codes "verity")
  pub version : version bytes ≡ 1
  pub hash_type : hash_type bytes ≡ 1
  pub uuid : uuid bytes ≡ p.uuid
  pub algorithm : algorithm_name bytes ≡ name_of p.algorithm
  pub data_size : data_block_size bytes ≡ p.data_block_size
  pub hash_size : hash_block_size bytes ≡ p.hash_block_size
  pub count : data_blocks bytes ≡ n
  pub salt_size : salt_size bytes ≡ length p.salt
  pub salt : salt bytes ≡ p.salt

-- whether two texts are the same
abbrev pub is_text : List ℕ → List ℕ → Bool
is_text xs ys = pointwise nat_eq xs ys

-- the first refusal that applies to the fields before the sizes, in the order of the fields
abbrev pub kind_refusal : List ℕ → Option SuperFault
kind_refusal bytes =
    if not (is_text (signature bytes) (zero_filled 8 (codes "verity"))) then Some Signature
    else if not (version bytes == 1) then Some Version
    else if not (hash_type bytes == 1) then Some HashType
    else if not (is_text (algorithm_name bytes) (name_of Sha256) || is_text (algorithm_name bytes) (name_of Sha512)) then Some Algorithm
    else None

-- the first that applies to the sizes, the count and the salt
abbrev pub size_refusal : List ℕ → Option SuperFault
size_refusal bytes =
    if not (is_block_size (data_block_size bytes) && is_block_size (hash_block_size bytes)) then Some BadSize
    else if not (is_block_count (data_blocks bytes)) then Some BadCount
    else if nat_lt 256 (salt_size bytes) then Some SaltSize
    else None

-- the first refusal that applies, in the order of the fields
unfoldable pub refusal : List ℕ → Option SuperFault
refusal bytes = if nat_lt (length bytes) 512 then Some Short else option_or (kind_refusal bytes) (size_refusal bytes)
