-- What calls do to three devices under one clock, and what a stop may leave of them.
use Rattle.std.specs.Prelude.{◌≡◌, ◌⊎◌, ℕ, ◌+◌, ◌≤◌, min, max, List, length, take, drop}
use Rattle.verity_disks.specs.declared.disks.Device.{Device}
use Rattle.verity_disks.specs.declared.disks.Device.TheVariants.{Data, Hash, Journal}

-- what stands on each device
abbrev pub Contents : Type 0
Contents = Device → List ℕ

-- other bytes on one device
abbrev pub put : Device → List ℕ → Contents → Contents
put Data bytes contents Data = bytes
put Data bytes contents Hash = contents Hash
put Data bytes contents Journal = contents Journal
put Hash bytes contents Data = contents Data
put Hash bytes contents Hash = bytes
put Hash bytes contents Journal = contents Journal
put Journal bytes contents Data = contents Data
put Journal bytes contents Hash = contents Hash
put Journal bytes contents Journal = bytes

-- after a write of n bytes that a stop cuts short: any bytes in the range and past the old end, the same elsewhere
pub record Torn (at n : ℕ) (old new : List ℕ) : Type 0 where
  pub before : take at new ≡ take at old
  pub after : drop (at + n) new ≡ drop (at + n) old
  pub no_shorter : length old ≤ length new
  pub no_longer : length new ≤ max (length old) (at + n)

-- after a change of length to n that a stop cuts short: some length between, and past the front any bytes
pub record Stretched (n : ℕ) (old new : List ℕ) : Type 0 where
  pub front : take (min (length old) n) new ≡ take (min (length old) n) old
  pub no_shorter : min (length old) n ≤ length new
  pub no_longer : length new ≤ max (length old) n

-- these contents are an outcome after a step on one device
abbrev pub Reached : Device → (List ℕ → List ℕ → Type 0) → (Contents → Type 0) → Contents → Type 0
Reached device step outcomes c = (d : Contents) × outcomes d × (b : List ℕ) × step (d device) b × (c ≡ put device b d)

-- each new outcome of a stop is an old outcome after a step on one device
abbrev pub Follows : Device → (List ℕ → List ℕ → Type 0) → (Contents → Type 0) → (Contents → Type 0) → Type 0
Follows device step old new = (c : Contents) → new c → Reached device step old c

-- each new outcome of a stop is an old one
abbrev pub Stays : (Contents → Type 0) → (Contents → Type 0) → Type 0
Stays old new = (c : Contents) → new c → old c

-- of this device a stop leaves these bytes and nothing else
abbrev pub Only : Device → Contents → (Contents → Type 0) → Type 0
Only device seen outcomes = (c : Contents) → outcomes c → c device ≡ seen device

-- of each device a stop leaves what is read
abbrev pub IsDurable : Contents → (Contents → Type 0) → Type 0
IsDurable seen outcomes = (device : Device) → Only device seen outcomes

-- Time goes on: a stop since t might have left what it might have left before, or what it may leave now.
pub record Elapses (before now : ℕ) (past since : ℕ → Contents → Type 0) (may_leave : Contents → Type 0) : Type 0 where
  pub later : before ≤ now
  pub nothing_else : (t : ℕ) (c : Contents) → t ≤ before → since t c → past t c ⊎ may_leave c
  pub keeps : (t : ℕ) (c : Contents) → t ≤ before → past t c → since t c

-- A stop at any moment since old leaves contents that have P.
pub record LeavesOnly {D : Type 0} (moment : D → ℕ) (left_since : D → ℕ → Contents → Type 0) (old new : D)
    (P : Contents → Type 0) : Type 0 where
  pub later : moment old ≤ moment new
  pub each : (c : Contents) → left_since new (moment old) c → P c
  -- for a run that began earlier
  pub before : (t : ℕ) (c : Contents) → t ≤ moment old → left_since new t c → left_since old t c ⊎ P c
