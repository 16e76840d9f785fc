-- What is true of a hub and of its replies, after each event.
use Rattle.std.specs.Prelude.{◌≡◌, ◌≢◌, ◌↔◌, ℕ, ◌+◌, ◌<◌, ◌≤◌, ◌⊎◌, true, false, List, [], ◌∷◌, ◌++◌, length, Option, Some, None}
use Rattle.nbd_session.specs.declared.status.Status.{Status}
use Rattle.nbd_session.specs.declared.status.Status.TheVariants as status
use Rattle.nbd_session.specs.declared.phase.Phase.TheVariants as phase
use Rattle.nbd_session.specs.declared.offer.Offer.{Offer}
use Rattle.nbd_session.specs.Handshake.{greeting}
use Rattle.nbd_session.specs.Protocol.{nbd_eio, nbd_enomem}
use Rattle.nbd_session.specs.Talk.{Verdict, Bytes, Refused, hear, Judged, talk}
use Rattle.nbd_session.specs.Session.{State, IsAt, TalksOn}
use Rattle.nbd_session.specs.Export.{Facts}
use Rattle.nbd_hub.specs.declared.events.Event.{Event}
use Rattle.nbd_hub.specs.declared.events.Event.TheVariants as event
use Rattle.nbd_hub.specs.declared.fault.HubFault.TheVariants as fault
use Rattle.nbd_hub.specs.declared.events.HubReply.{HubReply}
use Rattle.nbd_hub.specs.declared.events.HubReply.TheVariants as reply
use Rattle.nbd_hub.specs.Sessions.{HubState, lookup, max_open, max_opened}
use Rattle.nbd_hub.specs.History.{Step, Opening, Feeding, Ending, step_of, own, starved, output, opened, closed, open_count, ended, IsOpen}

-- a verdict that the export gave up to a moment
abbrev pub Given : Facts → ℕ → ℕ → Verdict → Type 0
Given facts offset len (Bytes bytes) = (length bytes ≡ len) × facts.may_serve offset bytes
Given facts offset len (Refused error) =
    ((error ≡ nbd_enomem) × facts.may_lack offset len) ⊎ ((error ≡ nbd_eio) × facts.may_refuse offset len)

-- The output of session k is the talk of its own input, by verdicts of its own, of each of which P holds.
pub record IsTold (P : ℕ → ℕ → Verdict → Type 0) (offer : Offer) (history : List Step) (k : ℕ) : Type 0 where
  pub verdicts : List Verdict
  pub judged : Judged P (hear offer phase.Flags (own history k)).answers verdicts
  pub exact : output history k ≡ talk offer (own history k) verdicts

-- Session k stands so after the last step: Starved from a starved piece on, else Ended exactly where its talk has ended, else Open.
pub record IsStatus (offer : Offer) (history : List Step) (k : ℕ) (s : Status) : Type 0 where
  pub starved : (s ≡ status.Starved) ↔ (starved history k ≡ true)
  pub ended : s ≢ status.Starved → (s ≡ status.Ended) ↔ ((hear offer phase.Flags (own history k)).phase ≡ phase.Ended)

-- the reply that an event may have after this history
abbrev pub Replies : {A B : Type 0} → Offer → List Step → Event A → HubReply B → Type 0
Replies offer history event.Open (reply.Opened id bytes) =
    (id ≡ opened history) × (open_count history < max_open) × (opened history < max_opened)
Replies offer history event.Open (reply.Refused fault.Full) = max_open ≤ open_count history
Replies offer history event.Open (reply.Refused fault.Spent) = (open_count history < max_open) × (max_opened ≤ opened history)
Replies offer history event.Open (reply.Refused fault.NoMemory) = (open_count history < max_open) × (opened history < max_opened)
Replies offer history (event.Feed id piece) (reply.Fed s bytes) =
    IsOpen history id × IsStatus offer (history ++ Feeding id piece s bytes ∷ []) id s
Replies offer history (event.Feed id piece) (reply.Refused fault.Unknown) = IsOpen history id → ⊥
Replies offer history (event.End id) reply.Closed = IsOpen history id
Replies offer history (event.End id) (reply.Refused fault.Unknown) = IsOpen history id → ⊥
Replies offer history e r = ⊥

-- What an event asked of the export lies between two moments of it. What a piece adds to its session's talk was said by verdicts that
-- the export gave between them, where failures rose for each EIO, and each READ was read once and nothing else; a piece that starved
-- its session said nothing. Any other event asked nothing.
abbrev pub AskedBetween : {X A B : Type 0} → (facts : X → Facts) → (now next : X) → Offer → List Step → Event A → HubReply B → Type 0
AskedBetween facts now next offer history (event.Feed id piece) (reply.Fed s bytes) =
    (s ≢ status.Starved → TalksOn (facts now) (facts next) offer (own history id) piece [] bytes) × (s ≡ status.Starved → bytes ≡ [])
AskedBetween facts now next offer history e r = next ≡ now

-- and the second moment is later
abbrev pub AsksOn : {X A B : Type 0} → (later : X → X → Type 0) → (facts : X → Facts) → (now next : X) → Offer → List Step → Event A
    → HubReply B → Type 0
AsksOn later facts now next offer history e r = later now next × AskedBetween facts now next offer history e r

-- The events that have a reply lead from one moment of the export to the last, one after the other, each by a step that an event may
-- make. After each of them, at the next moment: the reply is right, and each session's output is the talk of its own input, by verdicts
-- of which P holds at this moment.
abbrev pub EachAfter : {X A B : Type 0} → (makes : (now next : X) → Offer → List Step → Event A → HubReply B → Type 0)
    → (P : X → ℕ → ℕ → Verdict → Type 0) → (now last : X) → Offer → List Step → List (Event A) → List (HubReply B) → Type 0
EachAfter makes P now last offer history events [] = last ≡ now
EachAfter makes P now last offer history [] (r ∷ replies) = ⊥
EachAfter {X = X} makes P now last offer history (e ∷ events) (r ∷ replies) =
    (next : X) × makes now next offer history e r × Replies offer history e r
    × ((k : ℕ) → k < opened (history ++ step_of e r ∷ []) → IsTold (P next) offer (history ++ step_of e r ∷ []) k)
    × EachAfter makes P next last offer (history ++ step_of e r ∷ []) events replies

-- what is kept of session k: nothing unless it is open, and then it is at its own input
abbrev pub Stands : List Step → ℕ → Option State → Type 0
Stands history k None = IsOpen history k → ⊥
Stands history k (Some session) = IsOpen history k × (session.starved ≡ starved history k) × IsAt session (own history k)

-- nothing came from or went to session k
pub record IsFresh (history : List Step) (k : ℕ) : Type 0 where
  pub own_none : own history k ≡ []
  pub output_none : output history k ≡ []
  pub awake : starved history k ≡ false
  pub lasts : ended history k ≡ false

-- The hub is after this history, since it was made.
pub record IsAfter (facts : Facts) (hub : HubState) (history : List Step) : Type 0 where
  pub next : hub.next ≡ opened history
  pub count : length hub.sessions + closed history ≡ opened history
  pub sessions : (k : ℕ) → Stands history k (lookup k hub.sessions)
  pub told : (k : ℕ) → k < opened history → IsTold (Given facts) hub.offer history k
  pub fresh : (k : ℕ) → opened history ≤ k → IsFresh history k

-- A session was opened after this history.
pub record OpenedAfter (facts : Facts) (hub : HubState) (history : List Step) (id : ℕ) : Type 0 where
  pub number : id ≡ opened history
  pub after : IsAfter facts hub (history ++ Opening id greeting ∷ [])

-- A session was fed after this history, and the output grew by what it said.
pub record FedAfter (facts : Facts) (hub : HubState) (history : List Step) (id : ℕ) (piece : List ℕ) (s : Status)
    (out out' : List ℕ) : Type 0 where
  pub said : List ℕ
  pub appends : out' ≡ out ++ said
  pub was_open : IsOpen history id
  pub stands : IsStatus hub.offer (history ++ Feeding id piece s said ∷ []) id s
  pub after : IsAfter facts hub (history ++ Feeding id piece s said ∷ [])

-- A session was ended after this history.
pub record EndedAfter (facts : Facts) (hub : HubState) (history : List Step) (id : ℕ) : Type 0 where
  pub was_open : IsOpen history id
  pub after : IsAfter facts hub (history ++ Ending id ∷ [])
