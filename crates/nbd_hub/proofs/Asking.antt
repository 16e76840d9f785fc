-- What a session is asked for is what its own input and the piece ask for.
use Rattle.std.proofs.Common.{◌≡◌, ℕ, false, List, Option, Some, ap, ◌∙◌, subst}
use Rattle.nbd_session.specs.Session.{State, IsAt, added}
use Rattle.nbd_session.specs.Short.{asked}
use Rattle.nbd_session.specs.Export.{Facts}
use Rattle.nbd_hub.specs.History.{Step, own, starved}
use Rattle.nbd_hub.specs.Sessions.{HubState, lookup}
use Rattle.nbd_hub.specs.After.{Stands, IsAfter}

pub asks_after : (facts : Facts) (hub : HubState) (h : List Step) (id : ℕ) (piece : List ℕ) (n : ℕ) (s : State)
    → lookup id hub.sessions ≡ Some s → s.offer ≡ hub.offer
    → ((input : List ℕ) → s.starved ≡ false → IsAt s input → n ≡ asked (added s.offer input piece))
    → IsAfter facts hub h → starved h id ≡ false → n ≡ asked (added hub.offer (own h id) piece)
asks_after facts hub h id piece n s f o a x w =
    let P : Option State → Type 0 = λ z. Stands h id z in
    let t = subst P f (x.sessions id) in
    a (own h id) (t.1 ∙ w) t.2 ∙ ap (λ z. asked (added z (own h id) piece)) o
