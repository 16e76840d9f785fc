-- Many clients of one hub.
use Rattle.std.specs.Prelude.{◌≡◌, ◌≢◌, ◌<◌, ℕ, List, [], ◌∷◌, ◌++◌, Option, Some, slice_get, slice_set}
use Rattle.std.specs.Io.KnownBytes.{Appends}
use Rattle.nbd_session.specs.declared.offer.Offer.{Offer}
use Rattle.nbd_session.specs.Export.{Facts}
use Rattle.nbd_hub.specs.History.{Step}
use Rattle.nbd_hub.specs.Sessions.{HubState}
use Rattle.nbd_hub.specs.After.{IsAfter}
use Rattle.nbd_hub.specs.Stream.{Moved}
use Rattle.nbd_relay.specs.declared.client.Turn.{Turn}
use Rattle.nbd_relay.specs.declared.client.Turn.TheVariants as turn
use Rattle.nbd_relay.specs.Asked.{Asked}
use Rattle.nbd_relay.specs.Client.{ClientState, IsServed, Moves, ends}

-- what was read from a client and written to it, since it was accepted
pub record Log : Type 0 where
  pub read : List ℕ
  pub wrote : List ℕ

-- none of the clients has this session
abbrev pub Apart : {S : Type 0} → ℕ → List (ClientState × S) → Type 0
Apart id [] = Unit {0}
Apart id (c ∷ clients) = (id ≢ c.0.id) × Apart id clients

-- Each client is served, as its log says, and no two have one session.
abbrev pub AllServed : {S : Type 0} → Offer → List Step → List (ClientState × S) → List Log → Type 0
AllServed offer history [] [] = Unit {0}
AllServed offer history [] (l ∷ logs) = ⊥
AllServed offer history (c ∷ clients) [] = ⊥
AllServed offer history (c ∷ clients) (l ∷ logs) = IsServed offer history c.0 l.read l.wrote × Apart c.0.id clients ×
    AllServed offer history clients logs

-- the log went on by what was read and written
pub record IsLogged (reader reader' received received' writer writer' : Option (List ℕ)) (log log' : Log) : Type 0 where
  pub took : List ℕ
  pub gave : List ℕ
  pub adds : Appends received received' took
  pub moved : Moved (ends reader reader' writer writer') took gave
  pub read : log'.read ≡ log.read ++ took
  pub wrote : log'.wrote ≡ log.wrote ++ gave

-- each client is the same, and its log went on by what was read and written
abbrev pub AllLogged : {S : Type 0} → (remaining received contents : S → Option (List ℕ)) → (old new : List (ClientState × S)) →
    (logs logs' : List Log) → Type 0
AllLogged r g w [] [] [] [] = Unit {0}
AllLogged r g w (c ∷ cs) (d ∷ ds) (l ∷ ls) (m ∷ ms) = (d.0.id ≡ c.0.id)
    × IsLogged (r c.1) (r d.1) (g c.1) (g d.1) (w c.1) (w d.1) l m × AllLogged r g w cs ds ls ms
AllLogged r g w cs ds ls ms = ⊥

-- One client took a turn, which came to this; the others stand as they stood.
pub record TurnsAt {S : Type 0} (asked : S → Asked) (old new : List (ClientState × S)) (at : ℕ) (result : Turn) : Type 0 where
  pub before : ClientState × S
  pub after : ClientState × S
  pub was : slice_get old at ≡ Some before
  pub sets : new ≡ slice_set old at after
  pub id : after.0.id ≡ before.0.id
  pub moves : result ≡ turn.Again → Moves before.0 after.0
  pub waits : result ≡ turn.Blocked → (asked before.1).waits < (asked after.1).waits
  pub done : result ≡ turn.Done → (after.0 ≡ before.0) × (after.0.unsent ≡ [])

-- After this history the hub took some steps, and all clients are served so again.
pub record RunsOn {S : Type 0} (remaining received contents : S → Option (List ℕ)) (facts : Facts) (hub : HubState)
    (history : List Step) (old new : List (ClientState × S)) (logs : List Log) : Type 0 where
  pub fed : List Step
  pub after : IsAfter facts hub (history ++ fed)
  pub later : List Log
  pub logged : AllLogged remaining received contents old new logs later
  pub served : AllServed hub.offer (history ++ fed) new later
