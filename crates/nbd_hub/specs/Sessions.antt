-- Sessions by number, and a hub as its callers see it.
use Rattle.std.specs.Prelude.{◌≡◌, ◌≤◌, ◌+◌, ◌<◌, ◌^◌, ℕ, zero, suc, false, nat_eq, if◌then◌else◌, List, [], ◌∷◌, length, Option}
use Rattle.std.specs.Prelude.{Some, None}
use Rattle.nbd_session.specs.declared.offer.Offer.{Offer}
use Rattle.nbd_session.specs.declared.status.Status.{Status}
use Rattle.nbd_session.specs.Session.{State, IsAt, Feeds}
use Rattle.nbd_session.specs.Export.{Facts}

-- a session and its number
pub record Entry : Type 0 where
  pub number : ℕ
  pub session : State

pub record HubState : Type 0 where
  -- what every session offers
  pub offer : Offer
  -- the number of the next session
  pub next : ℕ
  -- those that are open
  pub sessions : List Entry

-- how many sessions may be open, and how many may ever be opened
abbrev pub max_open : ℕ
max_open = 64

abbrev pub max_opened : ℕ
max_opened = 2 ^ 32

abbrev pub lookup : ℕ → List Entry → Option State
lookup k [] = None
lookup k (one ∷ more) = if nat_eq one.number k then Some one.session else lookup k more

-- the sessions are as before, but that of number k
abbrev pub SetsOnly : (old new : List Entry) → ℕ → Option State → Type 0
SetsOnly old new k one = (j : ℕ) → lookup j new ≡ (if nat_eq j k then one else lookup j old)

-- A session of this number was opened.
pub record OpensOne (old new : HubState) (id : ℕ) : Type 0 where
  pub room : length old.sessions < max_open
  pub lasting : old.next < max_opened
  pub number : id ≡ old.next
  pub next : new.next ≡ old.next + 1
  pub offer : new.offer ≡ old.offer
  pub count : length new.sessions ≡ length old.sessions + 1
  pub session : State
  pub at : IsAt session []
  pub awake : session.starved ≡ false
  pub offers : session.offer ≡ old.offer
  pub sets : SetsOnly old.sessions new.sessions id (Some session)

-- The session of this number was fed a piece, between two moments of the export.
pub record FeedsOne (old_facts new_facts : Facts) (old new : HubState) (id : ℕ) (piece out out' : List ℕ) (status : Status) : Type 0 where
  pub next : new.next ≡ old.next
  pub offer : new.offer ≡ old.offer
  pub count : length new.sessions ≡ length old.sessions
  pub before : State
  pub found : lookup id old.sessions ≡ Some before
  pub offers : before.offer ≡ old.offer
  pub after : State
  pub sets : SetsOnly old.sessions new.sessions id (Some after)
  pub feeds : Feeds old_facts new_facts before after piece out out' status

-- The session of this number was ended.
pub record EndsOne (old new : HubState) (id : ℕ) : Type 0 where
  pub next : new.next ≡ old.next
  pub offer : new.offer ≡ old.offer
  pub count : length new.sessions + 1 ≡ length old.sessions
  pub session : State
  pub found : lookup id old.sessions ≡ Some session
  pub sets : SetsOnly old.sessions new.sessions id None

-- The rest is what holds of every hub's list of sessions.

-- the first of that number stands there
abbrev pub Place : ℕ → List Entry → ℕ → Type 0
Place k [] i = ⊥
Place k (one ∷ more) zero = one.number ≡ k
Place k (one ∷ more) (suc i) = (nat_eq one.number k ≡ false) × Place k more i

-- none of the first i has that number
abbrev pub Passed : ℕ → List Entry → ℕ → Type 0
Passed k entries zero = Unit {0}
Passed k [] (suc i) = ⊥
Passed k (one ∷ more) (suc i) = (nat_eq one.number k ≡ false) × Passed k more i

-- the numbers rise from low on, and are below next
abbrev pub Rising : (low : ℕ) → List Entry → (next : ℕ) → Type 0
Rising low [] next = low ≤ next
Rising low (one ∷ more) next = (low ≤ one.number) × Rising (suc one.number) more next

-- each session offers this
abbrev pub AllOffer : Offer → List Entry → Type 0
AllOffer offer [] = Unit {0}
AllOffer offer (one ∷ more) = (one.session.offer ≡ offer) × AllOffer offer more

pub record IsSound (offering : Offer) (bytes least highest : ℕ) (entries : List Entry) : Type 0 where
  pub size : offering.size ≡ bytes
  pub block : offering.block ≡ least
  pub next : highest ≤ max_opened
  pub count : length entries ≤ max_open
  pub rising : Rising 0 entries highest
  pub offers : AllOffer offering entries
