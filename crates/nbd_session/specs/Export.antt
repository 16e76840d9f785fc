-- What contracts see of an export.
use Rattle.std.specs.Prelude.{◌≡◌, ℕ, ◌+◌, ◌==◌, if◌then◌else◌, [], ◌∷◌, ◌<◌, ◌≤◌, ◌⊎◌, List, length, take, drop}
use Rattle.nbd_session.specs.declared.export.ExportFault.{ExportFault}
use Rattle.nbd_session.specs.declared.export.ExportFault.TheVariants.{Io, NoMemory}
use Rattle.nbd_session.specs.Protocol.{nbd_eio, nbd_enomem}
use Rattle.nbd_session.specs.Transmission.{Answer, Says, Asks}
use Rattle.nbd_session.specs.Talk.{Verdict, Bytes, Refused}

-- an export at one moment
pub record Facts : Type 1 where
  pub size : ℕ
  pub block : ℕ
  -- holds of each answer that was given
  pub may_serve : (offset : ℕ) (bytes : List ℕ) → Type 0
  -- holds of each range that was refused with Io
  pub may_refuse : (offset len : ℕ) → Type 0
  -- holds of each range that was refused with NoMemory
  pub may_lack : (offset len : ℕ) → Type 0
  -- the whole content is this
  pub steady : List ℕ → Type 0
  pub failures : ℕ
  -- how often the device was read
  pub reads : ℕ
  -- holds of each number by which one read of a range raised that count
  pub may_cost : (offset len n : ℕ) → Type 0

-- a range, an offset and a length, that doesn't go past the end of so many bytes
abbrev pub IsWithin : (size : ℕ) → (range : ℕ × ℕ) → Type 0
IsWithin size range = range.0 + range.1 ≤ size

-- what no read changes or takes back
pub record Keeps (old new : Facts) : Type 0 where
  pub size : new.size ≡ old.size
  pub block : new.block ≡ old.block
  pub serve : (offset : ℕ) (bytes : List ℕ) → old.may_serve offset bytes → new.may_serve offset bytes
  pub refuse : (offset len : ℕ) → old.may_refuse offset len → new.may_refuse offset len
  pub lack : (offset len : ℕ) → old.may_lack offset len → new.may_lack offset len
  pub steady : (content : List ℕ) → old.steady content → new.steady content
  pub failures : old.failures ≤ new.failures
  pub reads : old.reads ≤ new.reads
  pub cost : (offset len n : ℕ) → old.may_cost offset len n → new.may_cost offset len n

-- these bytes were given between two moments; where the content is known, they are its slice
pub record Served (old new : Facts) (offset len : ℕ) (bytes : List ℕ) : Type 0 where
  pub exact : length bytes ≡ len
  pub given : new.may_serve offset bytes
  pub content : (content : List ℕ) → old.steady content → bytes ≡ take len (drop offset content)

-- the range was refused with Io between two moments; where the content is known, failures rose
pub record Failed (old new : Facts) (offset len : ℕ) : Type 0 where
  pub leave : new.may_refuse offset len
  pub failure : (content : List ℕ) → old.steady content → old.failures < new.failures

-- the range was refused with NoMemory between two moments
pub record Lacked (old new : Facts) (offset len : ℕ) : Type 0 where
  pub leave : new.may_lack offset len

-- the error that a reply names
abbrev pub error_number : ExportFault → ℕ
error_number Io = nbd_eio
error_number NoMemory = nbd_enomem

-- a verdict of the export between two moments
abbrev pub Fair : Facts → Facts → ℕ → ℕ → Verdict → Type 0
Fair old new offset len (Bytes bytes) = Served old new offset len bytes
Fair old new offset len (Refused error) =
    ((error ≡ nbd_enomem) × Lacked old new offset len) ⊎ ((error ≡ nbd_eio) × Failed old new offset len)

-- how many EIOs there are
abbrev pub is_eio : ℕ → ℕ
is_eio error = if error == nbd_eio then 1 else 0

abbrev pub eios : List Verdict → ℕ
eios [] = 0
eios (Bytes bytes ∷ verdicts) = eios verdicts
eios (Refused error ∷ verdicts) = is_eio error + eios verdicts

-- where the content is known, failures rose by one at least for each EIO
abbrev pub Counted : Facts → Facts → List Verdict → Type 0
Counted old new verdicts = (content : List ℕ) → old.steady content → old.failures + eios verdicts ≤ new.failures

-- one read of a range lies between two moments
abbrev pub Costs : Facts → Facts → ℕ → ℕ → Type 0
Costs old new offset len = (n : ℕ) × (new.reads ≡ old.reads + n) × new.may_cost offset len n

-- each range that is asked for is read once, which costs n in all
abbrev pub Spends : (may_cost : ℕ → ℕ → ℕ → Type 0) → List Answer → ℕ → Type 0
Spends may_cost [] n = n ≡ 0
Spends may_cost (Says bytes ∷ answers) n = Spends may_cost answers n
Spends may_cost (Asks offset len cookie ∷ answers) n = (one more : ℕ) × may_cost offset len one × Spends may_cost answers more ×
    (n ≡ one + more)

-- and nothing else is read between two moments
pub record Spent (old new : Facts) (answers : List Answer) : Type 0 where
  pub cost : ℕ
  pub reads : new.reads ≡ old.reads + cost
  pub spends : Spends new.may_cost answers cost
