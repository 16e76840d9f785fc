-- The first bytes of a file, and those behind them.
use Rattle.std.specs.Prelude.{ℕ, ◌≤◌, Option, None, Some, List, take, drop}

-- the first `n` of the bytes, where they are known
abbrev pub first_bytes : ℕ → Option (List ℕ) → Option (List ℕ)
first_bytes n None = None
first_bytes n (Some bytes) = Some (take n bytes)

-- the bytes behind the first `n`, where they are known
abbrev pub bytes_behind : ℕ → Option (List ℕ) → Option (List ℕ)
bytes_behind n None = None
bytes_behind n (Some bytes) = Some (drop n bytes)

-- a file refused a call that reaches up to a byte, at most the `n`th
abbrev pub RefusesWithin : (ℕ → Type 0) → ℕ → Type 0
RefusesWithin refuses n = (m : ℕ) × (m ≤ n) × refuses m
