-- What is pending for many clients, said to them and not sent yet; and the budget for it.
use Rattle.std.specs.Prelude.{◌≡◌, ◌≤◌, ◌<◌, ◌+◌, ◌-◌, ◌*◌, ℕ, List, [], ◌∷◌, length, Some, slice_get}
use Rattle.nbd_session.specs.Short.{reply_head}
use Rattle.nbd_session.specs.Export.{Facts}
use Rattle.nbd_hub.specs.History.{Step}
use Rattle.nbd_hub.specs.Sessions.{HubState, max_open}
use Rattle.nbd_hub.specs.After.{IsAfter}
use Rattle.nbd_relay.specs.Client.{ClientState, AsksFor}

-- how many bytes are unsent in all
abbrev pub pending : {S : Type 0} → List (ClientState × S) → ℕ
pending [] = 0
pending (c ∷ clients) = length c.0.unsent + pending clients

-- and how many of them are beyond a share that each client has
abbrev pub beyond : {S : Type 0} → (share : ℕ) → List (ClientState × S) → ℕ
beyond share [] = 0
beyond share (c ∷ clients) = (length c.0.unsent - share) + beyond share clients

-- The budget: of as many clients as may be connected each has its share of the limit, and what is beyond the shares fits the rest.
abbrev pub IsWithin : {S : Type 0} → (limit share : ℕ) → List (ClientState × S) → Type 0
IsWithin limit share clients = beyond share clients + max_open * share ≤ limit

-- The client at this place has asked for more than its share: the reply to its next READ, of so many bytes, isn't within it.
pub record IsHungry {S : Type 0} (share : ℕ) (facts : Facts) (hub : HubState) (clients : List (ClientState × S)) (at : ℕ) : Type 0 where
  pub client : ClientState × S
  pub is_there : slice_get clients at ≡ Some client
  pub bytes : ℕ
  pub asks : (history : List Step) → IsAfter facts hub history → AsksFor hub.offer history client.0 bytes
  pub long : share < reply_head + bytes
