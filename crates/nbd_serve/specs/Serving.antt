-- What the sessions of a hub go through while clients are served.
use Rattle.std.specs.Prelude.{◌≡◌}
use Rattle.nbd_hub.specs.Sessions.{HubState}

-- they go on: what they offer stays, and their export is as it says of itself after any number of reads
pub record GoesOn {X : Type 0} (later : X → X → Type 0) (old new : HubState × X) : Type 0 where
  pub offer : new.0.offer ≡ old.0.offer
  pub export : later old.1 new.1
