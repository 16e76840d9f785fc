-- A text that no UUID is read from.
use Rattle.std.proofs.Common.{◌≡◌, refl, ℕ, List, Option, None, Some, Err}
use Rattle.std.specs.Prelude.{ok_or}

pub unread : {E : Type 0} (read : Option (List ℕ)) (e : E) → (((uuid : List ℕ) × (read ≡ Some uuid)) → ⊥) → Err e ≡ ok_or read e
unread None e none = refl
unread (Some uuid) e none = absurd (none (uuid, refl))
