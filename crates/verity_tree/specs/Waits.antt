-- Hash blocks of a level that are closed and whose digests aren't made yet.
use Rattle.std.specs.Prelude.{ℕ, List}

-- the size of a hash block, how many can wait, and those that wait
pub record Waits : Type 0 where
  pub size : ℕ
  pub room : ℕ
  pub blocks : List (List ℕ)
