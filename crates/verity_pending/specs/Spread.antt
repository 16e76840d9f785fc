-- The fields of the blocks below the hash blocks of a level.
use Rattle.std.specs.Prelude.{◌+◌, ◌++◌, ◌<◌, ◌≤◌, ◌^◌, length, take}
use Rattle.std.specs.List.Sorted.{IsNonDecreasingBy}
use Rattle.verity_pending.specs.declared.children.Children.TheInside.{Inside}
use Rattle.verity_pending.specs.Children.{Listed, spread}

-- the first ones of those that have names, the blocks of the run, and those behind
abbrev pub listed : {A : Type 0} → Inside A → Listed
listed c = record { items = take c.before c.named.items ++ (spread c.named.items c.common c.from c.to ++ c.behind.items) }

-- the run is one, and its names rise
pub record IsSpread {A : Type 0} (c : Inside A) : Type 0 where
  pub before : c.before ≤ length c.named.items
  pub order : c.from ≤ c.to
  pub few : c.before + c.to < 2 ^ 63
  pub rising : IsNonDecreasingBy (λ child. child.number) c.named.items
