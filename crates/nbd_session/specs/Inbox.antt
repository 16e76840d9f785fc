-- What a session keeps of the message that has begun to come.
use Rattle.std.specs.Prelude.{◌≡◌, ℕ, ◌-◌, ◌<◌, ◌≤◌, nat_lt, if◌then◌else◌, List, [], ◌++◌, length, take, drop, Option, Some, None}
use Rattle.nbd_session.specs.declared.phase.Phase.{Phase}
use Rattle.nbd_session.specs.declared.phase.Phase.TheVariants.{Flags, Options, Transmission, Ended}
use Rattle.nbd_session.specs.declared.inbox.Inbox.{Inbox}
use Rattle.nbd_session.specs.declared.inbox.Progress.{Progress}
use Rattle.nbd_session.specs.declared.inbox.Progress.TheVariants as progress
use Rattle.nbd_session.specs.Messages.{Partial, Whole, Halt, front, header_size, body_size}

-- all but a WRITE's payload is kept
abbrev pub kept : Phase → List ℕ → List ℕ
kept Flags bytes = bytes
kept (Options fixed_newstyle no_zeroes) bytes = bytes
kept Transmission bytes = take 28 bytes
kept Ended bytes = bytes

-- what is held when bytes of a body have come
abbrev pub with_body : Phase → (held bytes : List ℕ) → List ℕ
with_body Flags held bytes = held ++ bytes
with_body (Options fixed_newstyle no_zeroes) held bytes = held ++ bytes
with_body Transmission held bytes = held
with_body Ended held bytes = held ++ bytes

-- how many bytes of a body are still to come
abbrev pub lacking : ℕ → Option ℕ → ℕ
lacking come None = 0
lacking come (Some n) = n - come

-- the same of a message that has begun with these bytes: 0 until its header is whole
abbrev pub missing_of : Phase → List ℕ → ℕ
missing_of phase bytes =
    if nat_lt (length bytes) (header_size phase) then 0
    else lacking (length bytes - header_size phase) (body_size phase (take (header_size phase) bytes))

-- the inbox stands for these bytes, of a message that isn't whole
pub record Waits {A : Type 0} (inbox : Inbox A) (unfinished : List ℕ) : Type 0 where
  pub partial : front inbox.phase unfinished ≡ Partial
  pub held : inbox.held.items ≡ kept inbox.phase unfinished
  pub missing : inbox.missing ≡ missing_of inbox.phase unfinished

-- what is true of every inbox, whatever came
pub record IsInForm {A : Type 0} (inbox : Inbox A) : Type 0 where
  pub header : inbox.missing ≡ 0 → length inbox.held.items < header_size inbox.phase
  pub body : 0 < inbox.missing → header_size inbox.phase ≤ length inbox.held.items

-- a payload isn't held
abbrev pub HasBody : Phase → (held body : List ℕ) → Type 0
HasBody Flags held body = body ≡ drop 4 held
HasBody (Options fixed_newstyle no_zeroes) held body = body ≡ drop 16 held
HasBody Transmission held body = Unit {0}
HasBody Ended held body = Unit {0}

-- the inbox has come so far with the bytes
abbrev pub Progressed : {A : Type 0} → Inbox A → Progress → List ℕ → Type 0
Progressed inbox progress.Partial bytes = Waits inbox bytes
Progressed inbox progress.Whole bytes =
    (body : List ℕ) × HasBody inbox.phase inbox.held.items body
    × (front inbox.phase bytes ≡ Whole (record { header = take (header_size inbox.phase) inbox.held.items; body = body }) [])
Progressed inbox progress.Halt bytes = front inbox.phase bytes ≡ Halt

-- and in what form it is left
abbrev pub LeavesForm : {A : Type 0} → Inbox A → Progress → Type 0
LeavesForm inbox progress.Partial = IsInForm inbox
LeavesForm inbox progress.Whole = header_size inbox.phase ≤ length inbox.held.items
LeavesForm inbox progress.Halt = Unit {0}
