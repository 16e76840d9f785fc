-- How long a server is waited for, and whether it is asked.
use Rattle.std.specs.Prelude.{ℕ, ◌+◌, ◌*◌, ◌/◌, Bool, ◌||◌, nat_lt, nat_le}
use Rattle.std.specs.Duration.{as_nanos}
use Rattle.remote_file.specs.declared.rest.Rest.{Rest}

-- a request takes so many nanoseconds at most: as long as the server is waited for, and a second more for each MiB
abbrev pub request_nanos : (timeout bytes : ℕ) → ℕ
request_nanos timeout bytes = timeout + (bytes / 1048576) * 1000000000

-- a server is asked where fewer than three reads in a row failed, or the time of rest is over
abbrev pub may_ask : Rest → ℕ → Bool
may_ask rest now = nat_lt rest.failures 3 || nat_le (as_nanos rest.until) now
