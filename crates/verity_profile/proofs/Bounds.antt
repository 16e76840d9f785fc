-- What the bounds of the profile say in numbers.
use Rattle.std.proofs.Common.{ℕ, ◌≤◌, ◌<◌, ◌^◌, arith}
use Rattle.std.proofs.lemmas.Bool.{and_parts, leb-true}
use Rattle.std.specs.Prelude.{IsTrue, nat_le, ◌&&◌}
use Rattle.std.specs.Int.{is_power_of_two}
use Rattle.verity_profile.specs.Profile.{IsBlockSize, IsBlockCount}

size_parts : (n : ℕ) → IsBlockSize n → (512 ≤ n) × (n ≤ 524288) × IsTrue (is_power_of_two n)
size_parts n h =
    let outer = and_parts (nat_le 512 n) (nat_le n 524288 && is_power_of_two n) h in
    let inner = and_parts (nat_le n 524288) (is_power_of_two n) outer.1 in
    (leb-true 512 n outer.0, leb-true n 524288 inner.0, inner.1)

pub block_size_low : (n : ℕ) → IsBlockSize n → 512 ≤ n
block_size_low n h = (size_parts n h).0

pub block_size_high : (n : ℕ) → IsBlockSize n → n ≤ 524288
block_size_high n h = (size_parts n h).1

pub block_size_power : (n : ℕ) → IsBlockSize n → IsTrue (is_power_of_two n)
block_size_power n h = (size_parts n h).2

pub block_size_some : (n : ℕ) → IsBlockSize n → 0 < n
block_size_some n h = omega (arith, block_size_low n h)

count_parts : (n : ℕ) → IsBlockCount n → (1 ≤ n) × (n ≤ 2 ^ 40)
count_parts n h = let both = and_parts (nat_le 1 n) (nat_le n (2 ^ 40)) h in (leb-true 1 n both.0, leb-true n (2 ^ 40) both.1)

pub block_count_low : (n : ℕ) → IsBlockCount n → 1 ≤ n
block_count_low n h = (count_parts n h).0

pub block_count_high : (n : ℕ) → IsBlockCount n → n ≤ 2 ^ 40
block_count_high n h = (count_parts n h).1
