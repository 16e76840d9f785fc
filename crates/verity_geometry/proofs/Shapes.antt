-- What the numbers of a shape are bounded by.
-- For the layers above: `digest_size_cases`, `wide`, `wide_sha256`, `narrow`, `branching`, `some`, `few` (of a shape of the profile),
-- `total_few`, `levels_few`, `levels_few_sha256`, `level_low`.
use Rattle.std.proofs.Common.{◌≡◌, ℕ, ◌^◌, ◌<◌, ◌≤◌, ◌⊎◌, inl, inr, ⊎_elim, arith, lit≤}
use Rattle.std.specs.Prelude.{IsTrue}
use Rattle.std.proofs.Math.Nat.{div-le_of_le-mul}
use Rattle.std.proofs.lemmas.Nat.{le-div}
use Rattle.std.proofs.lemmas.Bool.{eqb-true}
use Rattle.std.proofs.lemmas.Bool.Decides.{eqb_tells}
use Rattle.verity_profile.proofs.Bounds.{block_size_low, block_size_high, block_count_low, block_count_high}
use Rattle.verity_digest.proofs.Numbers.{level_below, level_count_most}
use Rattle.verity_digest.proofs.Counts.{total_most}
use Rattle.verity_geometry.specs.Geometry.{Shape, IsShape, is_digest_size, digests_per_block, levels_of, total_of}

pub digest_size_cases : (n : ℕ) → IsTrue (is_digest_size n) → (n ≡ 32) ⊎ (n ≡ 64)
digest_size_cases n h = ⊎_elim (λ yes. inl yes.1) (λ no. inr (eqb-true n 64 (rw no.0 at h))) (eqb_tells n 32)

-- a hash block of the profile has room for 8 digests or more
pub wide : (s : Shape) → IsShape s → 8 ≤ digests_per_block s
wide s ok =
    let low : 512 ≤ s.hash_size = block_size_low s.hash_size ok.hash_size in
    ⊎_elim
    (λ e. le-div 8 s.hash_size s.digest_size (omega arith) (omega arith))
    (λ e. le-div 8 s.hash_size s.digest_size (omega arith) (omega arith))
    (digest_size_cases s.digest_size ok.digest_size)

-- of SHA-256 for 16
pub wide_sha256 : (s : Shape) → IsShape s → s.digest_size ≡ 32 → 16 ≤ digests_per_block s
wide_sha256 s ok e =
    let low : 512 ≤ s.hash_size = block_size_low s.hash_size ok.hash_size in
    le-div 16 s.hash_size s.digest_size (omega arith) (omega arith)

pub narrow : (s : Shape) → IsShape s → digests_per_block s ≤ 2 ^ 14
narrow s ok =
    let high : s.hash_size ≤ 524288 = block_size_high s.hash_size ok.hash_size in
    div-le_of_le-mul s.digest_size (⊎_elim (λ e. omega arith) (λ e. omega arith) (digest_size_cases s.digest_size ok.digest_size))

pub branching : (s : Shape) → IsShape s → 2 ≤ digests_per_block s
branching s ok = let w = wide s ok in omega arith

pub some : (s : Shape) → IsShape s → 0 < s.blocks
some s ok = block_count_low s.blocks ok.blocks

pub few : (s : Shape) → IsShape s → s.blocks ≤ 2 ^ 40
few s ok = block_count_high s.blocks ok.blocks

-- the span of a level that is there
pub level_low : (s : Shape) (l : ℕ) → IsShape s → l < levels_of s → digests_per_block s ^ l < 2 ^ 40
level_low s l ok below =
    let low : digests_per_block s ^ l < s.blocks = level_below (digests_per_block s) s.blocks l (branching s ok) below in
    let most = few s ok in
    omega arith

pub levels_few : (s : Shape) → IsShape s → levels_of s ≤ 14
levels_few s ok = level_count_most 8 (digests_per_block s) s.blocks 14 (lit≤ tt) (wide s ok) (let most = few s ok in omega arith)

pub levels_few_sha256 : (s : Shape) → IsShape s → s.digest_size ≡ 32 → levels_of s ≤ 10
levels_few_sha256 s ok e = level_count_most 16 (digests_per_block s) s.blocks 10 (lit≤ tt) (wide_sha256 s ok e)
    (let most = few s ok in omega arith)

pub total_few : (s : Shape) → IsShape s → total_of s ≤ s.blocks
total_few s ok = total_most (digests_per_block s) s.blocks (wide s ok)
