-- A hash tree in numbers. A hash block has room for k digests, and there are n data blocks.
use Rattle.std.specs.Prelude.{ℕ, zero, suc, ◌+◌, ◌-◌, ◌*◌, ◌/◌, ◌^◌, min, nat_le, if◌then◌else◌, sum_by}
use Rattle.std.specs.List.{range_with_len}
use Rattle.std.specs.Int.{div_ceil}

-- the least L from l on with k ^ L ≥ n, looked for in f numbers
unfoldable pub least_level : ℕ → ℕ → ℕ → ℕ → ℕ
least_level k n zero l = l
least_level k n (suc f) l = if nat_le n (k ^ l) then l else least_level k n f (l + 1)

-- the number of levels: the least L with k ^ L ≥ n
unfoldable pub level_count : ℕ → ℕ → ℕ
level_count k n = least_level k n n 0

-- how many blocks row r has: row 0 are the data blocks, and row l + 1 is level l
unfoldable pub row_len : ℕ → ℕ → ℕ → ℕ
row_len k n r = div_ceil n (k ^ r)

-- how many hash blocks level l has
abbrev pub level_len : ℕ → ℕ → ℕ → ℕ
level_len k n l = row_len k n (suc l)

-- how many hash blocks the m levels from l on have
unfoldable pub blocks_of_levels : ℕ → ℕ → ℕ → ℕ → ℕ
blocks_of_levels k n l m = sum_by (level_len k n) (range_with_len l m)

-- where level l begins, counted from the block of the root level: behind the levels above it
abbrev pub level_start : ℕ → ℕ → ℕ → ℕ
level_start k n l = blocks_of_levels k n (suc l) (level_count k n - suc l)

-- where block i of level l stands, counted likewise
abbrev pub place : ℕ → ℕ → ℕ → ℕ → ℕ
place k n l i = level_start k n l + i

-- the hash blocks of all levels
abbrev pub total : ℕ → ℕ → ℕ
total k n = blocks_of_levels k n 0 (level_count k n)

-- how many digests block i of level l holds
abbrev pub held : ℕ → ℕ → ℕ → ℕ → ℕ
held k n l i = min k (row_len k n l - i * k)

-- the block of level l above data block b
abbrev pub above : ℕ → ℕ → ℕ → ℕ
above k l b = b / k ^ suc l
