-- What a served stream has read and written.
use Rattle.std.specs.Prelude.{◌≡◌, ◌↔◌, ◌*◌, Bool, true, false, ℕ, ◌≤◌, ◌⊎◌, List, [], ◌∷◌, ◌++◌, length, Option, Result, Ok, Err}
use Rattle.std.specs.Io.KnownBytes.{Consumes, Appends, IsAtEnd}
use Rattle.nbd_session.specs.declared.phase.Phase.TheVariants as phase
use Rattle.nbd_session.specs.declared.offer.Offer.{Offer}
use Rattle.nbd_session.specs.Handshake.{greeting}
use Rattle.nbd_session.specs.Talk.{hear}
use Rattle.nbd_session.specs.Session.{State, IsAt, TalksOn, Talked}
use Rattle.nbd_session.specs.Export.{Facts}
use Rattle.nbd_hub.specs.declared.fault.ServeFault.{ServeFault}
use Rattle.nbd_hub.specs.declared.fault.ServeFault.TheVariants as fault
use Rattle.nbd_hub.specs.Sessions.{HubState}
use Rattle.nbd_hub.specs.History.{Step, Opening, Feeding, Ending, Refusal}
use Rattle.nbd_hub.specs.After.{IsAfter}

abbrev pub HasEnded : Offer → (input : List ℕ) → Type 0
HasEnded offer input = (hear offer phase.Flags input).phase ≡ phase.Ended

-- the most bytes that one turn reads: those of a request's header
abbrev pub turn_bytes : ℕ
turn_bytes = 28

-- What was read reaches into one turn at most from where the session went on, and there were no more turns than the limit.
pub record IsTaken (offer : Offer) (limit : ℕ) (input : List ℕ) : Type 0 where
  pub front : List ℕ
  pub piece : List ℕ
  pub parts : input ≡ front ++ piece
  pub short : length piece ≤ turn_bytes
  pub going : HasEnded offer front → ⊥
  pub few : length input ≤ turn_bytes * limit

-- the bytes that the reader has left and those that the writer holds, before and after, where they tell
pub record Ends : Type 0 where
  pub reader : Option (List ℕ)
  pub reader' : Option (List ℕ)
  pub writer : Option (List ℕ)
  pub writer' : Option (List ℕ)

-- this input was read, and that was written
pub record Moved (e : Ends) (input wrote : List ℕ) : Type 0 where
  pub reads : Consumes e.reader e.reader' input
  pub writes : Appends e.writer e.writer' wrote

-- What was read and written when a stream was left, by how it was left, where S holds of an input and what is said to it.
abbrev pub ServedBy : (S : (input said : List ℕ) → Type 0) → Offer → Ends → (limit : ℕ) → Result (Unit {0}) ServeFault → Type 0
-- the talk of all that the reader had, or of an input that ends it
ServedBy S offer e limit (Ok x) =
    (input wrote : List ℕ) × Moved e input wrote × S input wrote × IsTaken offer limit input × (IsAtEnd e.reader' ⊎ HasEnded offer input)
-- the talk of what was read
ServedBy S offer e limit (Err fault.Read) =
    (input wrote : List ℕ) × Moved e input wrote × S input wrote × IsTaken offer limit input
-- the same, and each turn gave a byte at least
ServedBy S offer e limit (Err fault.Turns) =
    (input wrote : List ℕ) × Moved e input wrote × S input wrote × IsTaken offer limit input × (limit ≤ length input) ×
    (HasEnded offer input → ⊥)
-- a beginning of the talk of what was read
ServedBy S offer e limit (Err fault.Write) =
    (input wrote rest : List ℕ) × Moved e input wrote × S input (wrote ++ rest) × IsTaken offer limit input
-- the talk of what was read before the piece that starved the session
ServedBy S offer e limit (Err fault.Starved) =
    (input piece wrote : List ℕ) × Moved e (input ++ piece) wrote × S input wrote × IsTaken offer limit (input ++ piece)
-- nothing
ServedBy S offer e limit (Err (fault.Hub f)) = Moved e [] []

-- by verdicts that the export gave between two moments
abbrev pub Served : (old new : Facts) → Offer → Ends → (limit : ℕ) → Result (Unit {0}) ServeFault → Type 0
Served old new offer e limit result = ServedBy (Talked old new offer) offer e limit result

-- steps that feed this session
abbrev pub AllFeed : (id : ℕ) → List Step → Type 0
AllFeed id [] = Unit {0}
AllFeed id (Opening k bytes ∷ more) = ⊥
AllFeed id (Feeding k piece status bytes ∷ more) = (k ≡ id) × AllFeed id more
AllFeed id (Ending k ∷ more) = ⊥
AllFeed id (Refusal ∷ more) = ⊥

-- After this history one session was opened, fed and ended, and nothing else was done.
pub record ServedAfter (facts : Facts) (hub : HubState) (history : List Step) (id : ℕ) : Type 0 where
  pub feedings : List Step
  pub feeds : AllFeed id feedings
  pub after : IsAfter facts hub (((history ++ Opening id greeting ∷ []) ++ feedings) ++ Ending id ∷ [])

-- After this history one session was fed, and nothing else was done.
pub record TurnedAfter (facts : Facts) (hub : HubState) (history : List Step) (id : ℕ) : Type 0 where
  pub feedings : List Step
  pub feeds : AllFeed id feedings
  pub after : IsAfter facts hub (history ++ feedings)

-- a session took in a piece, and this is to be said to it
abbrev pub Answers : (old new : Facts) → (before after : State) → (piece bytes : List ℕ) → Type 0
Answers old new before after piece bytes =
    (input : List ℕ) → IsAt before input → IsAt after (input ++ piece) × TalksOn old new before.offer input piece [] bytes

-- and was written, or a beginning, or nothing; w and w' are the writer's bytes
abbrev pub Exchanged : (old new : Facts) → (before after : State) → (piece : List ℕ) → (w w' : Option (List ℕ)) →
    Result Bool ServeFault → Type 0
Exchanged old new before after piece w w' (Ok over) =
    (bytes : List ℕ) × Appends w w' bytes × Answers old new before after piece bytes × ((over ≡ true) ↔ (after.phase ≡ phase.Ended))
    × (after.starved ≡ false)
Exchanged old new before after piece w w' (Err fault.Write) =
    (part rest : List ℕ) × Appends w w' part × Answers old new before after piece (part ++ rest)
Exchanged old new before after piece w w' (Err fault.Starved) = Appends w w' []
Exchanged old new before after piece w w' (Err fault.Read) = ⊥
Exchanged old new before after piece w w' (Err fault.Turns) = ⊥
Exchanged old new before after piece w w' (Err (fault.Hub f)) = ⊥
