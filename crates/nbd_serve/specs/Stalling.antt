-- When a client has stalled, and is left where another one waits for memory.
use Rattle.std.specs.Prelude.{◌≡◌, ◌≢◌, ◌≤◌, ◌<◌, ◌-◌, ◌⊎◌, ℕ, Bool, false, nat_lt, List, length, Option, Some, slice_get}
use Rattle.std.specs.Duration.{as_nanos}
use Rattle.std.specs.declared.time.Duration.{Duration}
use Rattle.nbd_session.specs.Export.{Facts}
use Rattle.nbd_hub.specs.Sessions.{HubState}
use Rattle.nbd_relay.specs.Client.{ClientState}
use Rattle.nbd_relay.specs.Clients.{Log}
use Rattle.nbd_serve.specs.declared.lull.Lull.{Lull}
use Rattle.nbd_serve.specs.declared.connected.Seat.{Seat}
use Rattle.nbd_serve.specs.Pending.{IsHungry}
use Rattle.nbd_serve.specs.Sockets.{SocketState}

-- there is a limit and a clock, and at least as much time went by up to now
abbrev pub HasLasted : (since stall now : Option Duration) → Type 0
HasLasted (Some since) (Some stall) (Some now) = as_nanos stall ≤ as_nanos now - as_nanos since
HasLasted since stall now = ⊥

-- what is noted begins at this moment where bytes were taken, or nothing was pending before
abbrev pub Begins : (old new : Lull) → (now : Option Duration) → Type 0
Begins old new now = (old.taken ≢ new.taken) ⊎ (old.pending ≡ false) → new.since ≡ now

-- something is pending for a client
abbrev pub is_pending : ClientState → Bool
is_pending client = nat_lt 0 (length client.unsent)

module _ {C : Type 0} (log : C → Log) where
  -- how many bytes a client's connection has taken
  abbrev pub taken : SocketState C → ℕ
  taken socket = length (log socket.connection).wrote

  -- Something is pending for a client, and its connection has taken not a byte since the moment that was noted, which lies that long
  -- before now.
  pub record IsLulled (stall now : Option Duration) (client : ClientState × SocketState C) (lull : Lull) : Type 0 where
    pub pending : 0 < length client.0.unsent
    pub took_none : lull.taken ≡ taken client.1
    pub long : HasLasted lull.since stall now

  -- That is so of the client at this place, and another one waits for memory.
  pub record HasStalled (share : ℕ) (facts : Facts) (hub : HubState) (stall now : Option Duration)
      (clients : List (ClientState × SocketState C)) (seats : List Seat) (at : ℕ) : Type 0 where
    pub client : ClientState × SocketState C
    pub is_there : slice_get clients at ≡ Some client
    pub seat : Seat
    pub sits : slice_get seats at ≡ Some seat
    pub lulled : IsLulled stall now client seat.lull
    pub other : ℕ
    pub another : other ≢ at
    pub waits : IsHungry share facts hub clients other

  -- What the client at this place has taken, and whether something is pending for it, is noted.
  pub record IsNoted (clients : List (ClientState × SocketState C)) (seats : List Seat) (at : ℕ) : Type 0 where
    pub client : ClientState × SocketState C
    pub is_there : slice_get clients at ≡ Some client
    pub seat : Seat
    pub sits : slice_get seats at ≡ Some seat
    pub took : seat.lull.taken ≡ taken client.1
    pub pends : seat.lull.pending ≡ is_pending client.0
