-- The sizes of digests.
use Rattle.std.proofs.Common.{◌≡◌, ℕ, zero, suc, ◌*◌, ◌/◌, ◌≤◌, List, ◌++◌, length, refl, arith}
use Rattle.std.specs.Int.{w32, w64, to_be_bytes}
use Rattle.std.specs.Prelude.{slice_index}
use Rattle.std.proofs.lemmas.List.{length-append}
use Rattle.std.proofs.lemmas.Nat.{le-div}
use Rattle.sha2.specs.Sha256.{sha256, digest_bytes, final_hash, initial_hash_256}
use Rattle.sha2.specs.Sha512 as wide
use Rattle.verity_digest.specs.declared.algorithm.Algorithm.{Algorithm}
use Rattle.verity_digest.specs.declared.algorithm.Algorithm.TheVariants.{Sha256, Sha512}
use Rattle.verity_digest.specs.Tree.{per_block, IsHashing}
use Rattle.verity_digest.specs.Hash.{Salted, hashing, size_of, digest_of}

length-digest_bytes : (h : List ℕ) (n : ℕ) → length (digest_bytes h n) ≡ n * 4
unfolding digest_bytes
length-digest_bytes h zero = refl
length-digest_bytes h (suc n) =
    let four : length (to_be_bytes w32 (slice_index h n)) ≡ 4 = refl in
    omega (arith, length-append (digest_bytes h n) (to_be_bytes w32 (slice_index h n)), length-digest_bytes h n)

pub length-sha256 : (m : List ℕ) → length (sha256 m) ≡ 32
unfolding sha256
length-sha256 m = length-digest_bytes (final_hash initial_hash_256 m) 8

length-digest_bytes_512 : (h : List ℕ) (n : ℕ) → length (wide.digest_bytes h n) ≡ n * 8
unfolding wide.digest_bytes
length-digest_bytes_512 h zero = refl
length-digest_bytes_512 h (suc n) =
    let eight : length (to_be_bytes w64 (slice_index h n)) ≡ 8 = refl in
    omega (arith, length-append (wide.digest_bytes h n) (to_be_bytes w64 (slice_index h n)), length-digest_bytes_512 h n)

pub length-sha512 : (m : List ℕ) → length (wide.sha512 m) ≡ 64
unfolding wide.sha512
length-sha512 m = length-digest_bytes_512 (wide.final_hash wide.initial_hash_512 m) 8

pub length-digest_of : (a : Algorithm) (m : List ℕ) → length (digest_of a m) ≡ size_of a
length-digest_of Sha256 m = length-sha256 m
length-digest_of Sha512 m = length-sha512 m

-- a hash block of 512 bytes or more has room for eight digests or more
pub per_block_by : (a : Algorithm) (size : ℕ) → 512 ≤ size → 8 ≤ size / size_of a
per_block_by Sha256 size fits = le-div 8 size 32 (omega arith) (omega arith)
per_block_by Sha512 size fits = le-div 8 size 64 (omega arith) (omega arith)

pub IsHashing-hashing : (s : Salted) (size : ℕ) → 512 ≤ size → IsHashing (hashing s size)
IsHashing-hashing s size fits =
    let wide : 8 ≤ per_block (hashing s size) = per_block_by s.algorithm size fits in
    record { branching = omega arith; sized = λ block. length-digest_of s.algorithm (s.salt ++ block) }
