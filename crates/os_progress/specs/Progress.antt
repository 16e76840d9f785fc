-- The numbers of a line of progress. What is done and the whole are bytes, and time is in milliseconds.
use Rattle.std.specs.Prelude.{ℕ, ◌+◌, ◌-◌, ◌*◌, ◌/◌, ◌≤◌}

-- how many hundredths of the whole are done
abbrev pub percent : ℕ → ℕ → ℕ
percent done total = done * 100 / total

-- megabytes a second
abbrev pub speed : ℕ → ℕ → ℕ
speed done milliseconds = done / (milliseconds * 1000)

-- the seconds that the rest takes at the speed so far
abbrev pub seconds_left : ℕ → ℕ → ℕ → ℕ
seconds_left done total milliseconds = (total - done) * milliseconds / (done * 1000)

-- a line is printed from the first second on, and a fifth of a second after the last one
abbrev pub IsDue : ℕ → ℕ → Type 0
IsDue milliseconds last = (1000 ≤ milliseconds) × (last + 200 ≤ milliseconds)
