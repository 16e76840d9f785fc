-- The blocks below the hash blocks of a level.
use Rattle.std.specs.Prelude.{ℕ, ◌-◌, ◌==◌, List, [], ◌∷◌, map, if◌then◌else◌}
use Rattle.std.specs.List.{range_with_len}
use Rattle.verity_pending.specs.declared.child.Child.{Child}

-- what a contract sees of them: all, one by one
pub record Listed : Type 0 where
  pub items : List Child

-- the digest of block n: that of the first of these children that has its number, or else the common one
abbrev pub digest_among : List Child → List ℕ → ℕ → List ℕ
digest_among [] common n = common
digest_among (child ∷ children) common n = if child.number == n then child.digest else digest_among children common n

-- the blocks from `from` to before `to`, each with that digest
abbrev pub spread : List Child → List ℕ → ℕ → ℕ → List Child
spread named common from to = map (λ n. record { number = n; digest = digest_among named common n }) (range_with_len from (to - from))
