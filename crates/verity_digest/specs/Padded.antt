-- The fields of a digest.
use Rattle.std.specs.Prelude.{◌≡◌, ℕ, ◌-◌, List, ◌++◌, length, take, drop, replicate, ◌==◌, if◌then◌else◌}
use Rattle.verity_digest.specs.declared.digest.Digest.TheInside.{Inside}
use Rattle.verity_digest.specs.declared.algorithm.Algorithm.TheVariants.{Sha256, Sha512}
use Rattle.verity_digest.specs.Hash.{size_of}

-- the bytes of the digest
abbrev pub shown : Inside → List ℕ
shown d = take (size_of d.algorithm) d.bytes

-- the array is as long as the longest digest, and what the digest leaves free is zeros
pub record IsPadded (d : Inside) : Type 0 where
  pub len : length d.bytes ≡ 64
  pub free : drop (size_of d.algorithm) d.bytes ≡ replicate (64 - size_of d.algorithm) 0

-- the fields of these bytes
abbrev pub stored : List ℕ → Inside
stored bytes = record {
  bytes = bytes ++ replicate (64 - length bytes) 0;
  algorithm = if length bytes == 32 then Sha256 else Sha512;
}
