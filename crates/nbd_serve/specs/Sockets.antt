-- What a server's connections carried, and what came of those that were given back.
use Rattle.std.specs.Prelude.{◌≡◌, ℕ, ◌+◌, List, [], ◌++◌, length, map, take, Result, Ok, Err}
use Rattle.std.specs.List.{All}
use Rattle.nbd_session.specs.declared.offer.Offer.{Offer}
use Rattle.nbd_session.specs.Export.{Facts}
use Rattle.nbd_session.specs.Talk.{Verdict}
use Rattle.nbd_hub.specs.History.{Step}
use Rattle.nbd_hub.specs.Sessions.{HubState}
use Rattle.nbd_hub.specs.After.{IsAfter, Given}
use Rattle.nbd_relay.specs.Asked.{Asked}
use Rattle.nbd_relay.specs.Client.{ClientState, IsSaid}
use Rattle.nbd_relay.specs.Clients.{Log, AllServed}
use Rattle.nbd_connection.specs.Connections.{Visits}

-- more was read, and nothing was written
pub record Drains (old new : Log) : Type 0 where
  pub late : List ℕ
  pub read : new.read ≡ old.read ++ late
  pub wrote : new.wrote ≡ old.wrote

-- a client's socket: its connection, what it took and hasn't sent yet, and what it was asked
pub record SocketState (C : Type 0) : Type 0 where
  pub connection : C
  pub held : List ℕ
  pub asked : Asked

-- what was read from a client and written to its socket
abbrev pub log_of : {C : Type 0} → (log : C → Log) → SocketState C → Log
log_of log socket = record { read = (log socket.connection).read; wrote = (log socket.connection).wrote ++ socket.held }

-- What a connection carried is of one session: what was sent is a beginning of what the session said to a beginning of what was
-- received, by verdicts of which P holds.
pub record IsOfOne (P : ℕ → ℕ → Verdict → Type 0) (offer : Offer) (log : Log) : Type 0 where
  pub client : ClientState
  pub read : List ℕ
  -- read once the session had ended
  pub late : List ℕ
  -- said and not sent
  pub held : List ℕ
  pub received : log.read ≡ read ++ late
  pub said : IsSaid P offer client read (log.wrote ++ held)

module _ {X : Type 0} (facts : X → Facts) where
  -- The clients are served, each as its own socket's log says, after some history of the hub.
  pub record AreServed {C : Type 0} (log : C → Log) (hub : HubState × X) (clients : List (ClientState × SocketState C)) : Type 0 where
    pub history : List Step
    pub after : IsAfter (facts hub.1) hub.0 history
    pub served : AllServed hub.0.offer history clients (map (λ c. log_of log c.1) clients)

  -- A connection carried what one session said, by verdicts that the export had given at some moment up to now.
  pub record IsTold (later : X → X → Type 0) (hub : HubState × X) (log : Log) : Type 0 where
    pub moment : X
    pub before : later moment hub.1
    pub one : IsOfOne (Given (facts moment)) hub.0.offer log

  -- Since a listener stood so, as many connections were accepted as are connected, are leaving, and were given back; and each of those
  -- that are leaving or were given back carried what one session said.
  pub record AreTold {C : Type 0} (later : X → X → Type 0) (log : C → Log) (begun : Visits) (hub : HubState × X) (connected : ℕ)
      (leaving : List C) (now : Visits) : Type 0 where
    pub gone : List Log
    pub closed : now.closed ≡ begun.closed ++ gone
    pub accepted : now.accepted ≡ begun.accepted + connected + length leaving + length gone
    pub told : All (IsTold later hub) gone
    pub leave : All (λ c. IsTold later hub (log c)) leaving

  -- and those that are connected are served
  pub record AreKept {C : Type 0} (later : X → X → Type 0) (log : C → Log) (begun : Visits) (hub : HubState × X)
      (clients : List (ClientState × SocketState C)) (leaving : List C) (now : Visits) : Type 0 where
    pub served : AreServed log hub clients
    pub told : AreTold later log begun hub (length clients) leaving now

-- All connections that a listener accepted meanwhile were given back, and P holds of what each had carried.
pub record AreGivenBack (P : Log → Type 0) (old new : Visits) : Type 0 where
  pub gone : List Log
  pub closed : new.closed ≡ old.closed ++ gone
  pub accepted : new.accepted ≡ old.accepted + length gone
  pub told : All P gone
