-- What a connection carries, and a listener.
use Rattle.std.specs.Prelude.{◌≡◌, ℕ, List, [], ◌++◌, take, Result, Ok, Err}
use Rattle.nbd_relay.specs.Clients.{Log}

-- a connection that was just accepted
abbrev pub nothing : Log
nothing = record { read = []; wrote = [] }

-- a read answered so
abbrev pub Hears : {E : Type 0} → (old new : Log) → Result ℕ E → List ℕ → Type 0
Hears old new (Ok n) buf = (new.read ≡ old.read ++ take n buf) × (new.wrote ≡ old.wrote)
Hears old new (Err e) buf = new ≡ old

-- a write answered so
abbrev pub Says : {E : Type 0} → (old new : Log) → Result ℕ E → List ℕ → Type 0
Says old new (Ok n) buf = (new.read ≡ old.read) × (new.wrote ≡ old.wrote ++ take n buf)
Says old new (Err e) buf = new ≡ old

-- how many connections a listener has accepted, and what each carried that was given back
pub record Visits : Type 0 where
  pub accepted : ℕ
  pub closed : List Log
