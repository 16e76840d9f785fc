-- The room for the lists of a level.
use Rattle.std.specs.Prelude.{◌≡◌, []}
use Rattle.verity_plan.specs.declared.rooms.Room.TheInside.{Inside}

-- nothing stands in it
pub record StaysEmpty {A : Type 0} (room : Inside A) : Type 0 where
  pub numbers : room.numbers.items ≡ []
  pub digests : room.digests.items ≡ []
