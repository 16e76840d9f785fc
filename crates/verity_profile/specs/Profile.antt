-- The bounds of the profile, and lists of blocks of one size.
use Rattle.std.specs.Prelude.{◌≡◌, ℕ, ◌^◌, Bool, ◌&&◌, nat_le, IsTrue, List, length, replicate, All}
use Rattle.std.specs.Int.{is_power_of_two}

-- a block size is a power of two from 512 to 524,288
abbrev pub is_block_size : ℕ → Bool
is_block_size n = nat_le 512 n && (nat_le n 524288 && is_power_of_two n)

abbrev pub IsBlockSize : ℕ → Type 0
IsBlockSize n = IsTrue (is_block_size n)

-- a volume has from 1 to 2 ^ 40 data blocks
abbrev pub is_block_count : ℕ → Bool
is_block_count n = nat_le 1 n && nat_le n (2 ^ 40)

abbrev pub IsBlockCount : ℕ → Type 0
IsBlockCount n = IsTrue (is_block_count n)

-- every block has `size` bytes
abbrev pub AllSized : ℕ → List (List ℕ) → Type 0
AllSized size blocks = All (λ block. length block ≡ size) blocks

-- a block of zero bytes
abbrev pub zero_block : ℕ → List ℕ
zero_block size = replicate size 0
