-- What a window holds of a file.
use Rattle.std.specs.Prelude.{◌≡◌, ℕ, ◌+◌, ◌≤◌, Option, None, Some, List, [], length, take, drop, slice_index_or}
use Rattle.remote_read_ahead.specs.declared.window.Window.{Window}

-- the known bytes of a file where these stand, or these
abbrev pub bytes_there : Option (List ℕ) → ℕ → List ℕ → List ℕ
bytes_there None at given = given
bytes_there (Some bytes) at given = take (length given) (drop at bytes)

-- these are the file's bytes at an offset, as far as they are known
abbrev pub Holds : Option (List ℕ) → ℕ → List ℕ → Type 0
Holds known at given = bytes_there known at given ≡ given

-- the same of a window
abbrev pub IsHeld : Option (List ℕ) → Window → Type 0
IsHeld known w = Holds known w.start w.bytes.items

-- a window has no bytes
abbrev pub IsEmpty : Window → Type 0
IsEmpty w = w.bytes.items ≡ []

-- a window has so many bytes from an offset on
abbrev pub Spans : Window → (at count : ℕ) → Type 0
Spans w at count = (w.start ≤ at) × (at + count ≤ w.start + length w.bytes.items)

-- the same of one in a list
abbrev pub SpansAt : List Window → (index at count : ℕ) → Type 0
SpansAt windows index at count = (d : Window) → Spans (slice_index_or windows index d) at count
