-- What was done with a hub since it was made, and what that says of each session.
use Rattle.std.specs.Prelude.{◌≡◌, ℕ, ◌-◌, ◌<◌, suc, Bool, true, false, ◌||◌, nat_eq, if◌then◌else◌, List, [], ◌∷◌, ◌++◌}
use Rattle.nbd_session.specs.declared.status.Status.{Status}
use Rattle.nbd_session.specs.declared.status.Status.TheVariants.{Open, Ended, Starved}
use Rattle.nbd_hub.specs.declared.events.Event.{Event}
use Rattle.nbd_hub.specs.declared.events.Event.TheVariants as event
use Rattle.nbd_hub.specs.declared.events.HubReply.{HubReply}
use Rattle.nbd_hub.specs.declared.events.HubReply.TheVariants as reply

-- one event and its reply; a refused event does nothing
pub data Step : Type 0 where
  Opening : (id : ℕ) (said : List ℕ) → Step
  Feeding : (id : ℕ) (piece : List ℕ) (status : Status) (said : List ℕ) → Step
  Ending : (id : ℕ) → Step
  Refusal : Step

abbrev pub step_of : {A B : Type 0} → Event A → HubReply B → Step
step_of event.Open (reply.Opened id said) = Opening id said
step_of (event.Feed id piece) (reply.Fed status said) = Feeding id piece status said
step_of (event.End id) reply.Closed = Ending id
step_of e r = Refusal

-- the steps of the events that have a reply
abbrev pub steps : {A B : Type 0} → List (Event A) → List (HubReply B) → List Step
steps events [] = []
steps [] (r ∷ replies) = []
steps (e ∷ events) (r ∷ replies) = step_of e r ∷ steps events replies

-- what a step brings to the input of session k
pub data Taken : Type 0 where
  Nothing : Taken
  Takes : (piece : List ℕ) → Taken
  Starves : Taken

abbrev pub taken_by : Status → List ℕ → Taken
taken_by Open piece = Takes piece
taken_by Ended piece = Takes piece
taken_by Starved piece = Starves

abbrev pub taken : Step → ℕ → Taken
taken (Opening id said) k = Nothing
taken (Feeding id piece status said) k = if nat_eq id k then taken_by status piece else Nothing
taken (Ending id) k = Nothing
taken Refusal k = Nothing

abbrev pub goes_on : Taken → (later : List ℕ) → List ℕ
goes_on Nothing later = later
goes_on (Takes piece) later = piece ++ later
goes_on Starves later = []

-- the input of session k: the pieces that it was fed, joined, without the one that starved it and all later ones
abbrev pub own : List Step → ℕ → List ℕ
own [] k = []
own (s ∷ history) k = goes_on (taken s k) (own history k)

abbrev pub is_starves : Taken → Bool
is_starves Nothing = false
is_starves (Takes piece) = false
is_starves Starves = true

-- whether session k was starved
abbrev pub starved : List Step → ℕ → Bool
starved [] k = false
starved (s ∷ history) k = is_starves (taken s k) || starved history k

abbrev pub said : Step → ℕ → List ℕ
said (Opening id bytes) k = if nat_eq id k then bytes else []
said (Feeding id piece status bytes) k = if nat_eq id k then bytes else []
said (Ending id) k = []
said Refusal k = []

-- the output of session k: what it said when it was opened and when it was fed, joined
abbrev pub output : List Step → ℕ → List ℕ
output [] k = []
output (s ∷ history) k = said s k ++ output history k

abbrev pub opens : Step → ℕ → ℕ
opens (Opening id bytes) n = suc n
opens (Feeding id piece status bytes) n = n
opens (Ending id) n = n
opens Refusal n = n

-- how many sessions were opened, which is the next number
abbrev pub opened : List Step → ℕ
opened [] = 0
opened (s ∷ history) = opens s (opened history)

abbrev pub closes : Step → ℕ → ℕ
closes (Opening id bytes) n = n
closes (Feeding id piece status bytes) n = n
closes (Ending id) n = suc n
closes Refusal n = n

-- how many were ended
abbrev pub closed : List Step → ℕ
closed [] = 0
closed (s ∷ history) = closes s (closed history)

-- how many are open
abbrev pub open_count : List Step → ℕ
open_count history = opened history - closed history

abbrev pub ends : Step → ℕ → Bool
ends (Opening id bytes) k = false
ends (Feeding id piece status bytes) k = false
ends (Ending id) k = nat_eq id k
ends Refusal k = false

-- whether session k was ended
abbrev pub ended : List Step → ℕ → Bool
ended [] k = false
ended (s ∷ history) k = ends s k || ended history k

-- session k was opened and not ended
abbrev pub IsOpen : List Step → ℕ → Type 0
IsOpen history k = (k < opened history) × (ended history k ≡ false)
