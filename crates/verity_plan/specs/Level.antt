-- One level of the tree that is made again.
use Rattle.std.specs.Prelude.{◌≡◌, ℕ, ◌+◌, ◌*◌, ◌/◌, ◌^◌, ◌<◌, ◌≤◌, List, [], length, slice_index_or, Contains, Some, IfSome, ◌⊎◌}
use Rattle.std.specs.Fork.{slice_chunk}
use Rattle.std.specs.List.Sorted.{IsNonDecreasingBy}
use Rattle.verity_digest.specs.Tree.{Hashing, hash_block, per_block}
use Rattle.verity_pending.specs.declared.child.Child.{Child}
use Rattle.verity_plan.specs.declared.level.OldLevel.{OldLevel}
use Rattle.verity_plan.specs.declared.level.Level.{Level}
use Rattle.verity_pending.specs.Slots.{child_at, AreNamed, AreSized, AreWithin}

-- these hash blocks of a store hold the digests `old`, of which the first may be kept elsewhere
pub record Holds (h : Hashing) (old : List (List ℕ)) (level : OldLevel) (content : List (List ℕ)) : Type 0 where
  pub blocks : (i : ℕ) → i < level.len → slice_index_or content (level.start + i) [] ≡ hash_block h (slice_chunk old (per_block h) i)
  pub rest : (j : ℕ) → j < length old → (j / per_block h < level.len) ⊎ ((j ≡ 0) × (level.first ≡ Some (slice_index_or old 0 [])))

-- block i of what stood at the level has this number in the store
abbrev pub IsOldBlock : Level → ℕ → ℕ → Type 0
IsOldBlock level i n = (i < level.old.len) × (n ≡ level.old.start + i)

-- one of these blocks has
abbrev pub IsOldOf : Level → List ℕ → ℕ → Type 0
IsOldOf level numbers n = (i : ℕ) × Contains numbers i × IsOldBlock level i n

-- the digests `new`, of `size` bytes, are those of these children, and at all other numbers the old ones
pub record Renews (size : ℕ) (old new : List (List ℕ)) (children : List Child) : Type 0 where
  pub sized : (j : ℕ) → j < length new → length (slice_index_or new j []) ≡ size
  pub old_sized : (j : ℕ) → j < length old → length (slice_index_or old j []) ≡ size
  pub named : AreNamed (λ j. slice_index_or new j []) children
  pub rising : IsNonDecreasingBy (λ child. child.number) children
  pub others : (j : ℕ) → j < length new → ((c : ℕ) → c < length children → (child_at children c).number ≡ j → ⊥)
      → (j < length old) × (slice_index_or new j [] ≡ slice_index_or old j [])

-- the level is one of a tree whose hash blocks have `size` bytes and its digests `digest`, and stood within `blocks` blocks
pub record IsLevel (level : Level) (blocks size digest : ℕ) : Type 0 where
  pub within : level.old.start + level.old.len ≤ blocks
  pub width : level.per_block ≡ size / digest
  pub room : level.per_block * level.digest_size ≤ size
  pub some : 0 < level.per_block
  pub digest_size : level.digest_size ≡ digest
  pub first : IfSome level.old.first (λ root. length root ≡ digest)
  pub fits : level.start + level.digests < 2 ^ 64

-- the children are of the level
pub record AreChildren (level : Level) (children : List Child) : Type 0 where
  pub sized : AreSized level.digest_size children
  pub within : AreWithin level.digests children
