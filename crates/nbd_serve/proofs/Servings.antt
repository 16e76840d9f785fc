use Rattle.std.proofs.Common.{refl, ◌∙◌}
use Rattle.nbd_hub.specs.Sessions.{HubState}
use Rattle.nbd_serve.specs.Serving.{GoesOn}

pub goes_same : {X : Type 0} (later : X → X → Type 0) (same : (x : X) → later x x) (hub : HubState × X) → GoesOn later hub hub
goes_same later same hub = record { offer = refl; export = same hub.1 }

pub goes_on : {X : Type 0} (later : X → X → Type 0) (on : (x y z : X) → later x y → later y z → later x z) (a b c : HubState × X)
    → GoesOn later a b → GoesOn later b c → GoesOn later a c
goes_on later on a b c p q = record { offer = q.offer ∙ p.offer; export = on a.1 b.1 c.1 p.export q.export }

pub goes_through : {X : Type 0} (later : X → X → Type 0) (on : (x y z : X) → later x y → later y z → later x z) (a b c d e : HubState × X)
    → GoesOn later a b → GoesOn later b c → GoesOn later c d → GoesOn later d e → GoesOn later a e
goes_through later on a b c d e p q r s = goes_on later on a b e p (goes_on later on b c e q (goes_on later on c d e r s))
