-- Hash blocks that are made again from what they held.
use Rattle.std.specs.Prelude.{◌≡◌, ℕ, ◌+◌, ◌*◌, ◌<◌, List, [], length, slice_index_or}
use Rattle.std.specs.Fork.{slice_chunk}
use Rattle.std.specs.List.Sorted.{IsNonDecreasingBy}
use Rattle.verity_digest.specs.Tree.{Hashing, hash_block}
use Rattle.verity_pending.specs.declared.child.Child.{Child}
use Rattle.verity_pending.specs.Slots.{slots, child_at, AreNamed}

-- these children have the digests that stand at their numbers in `new`, and each slot of block i that none of them names
-- holds the digest that stands there in `new`
pub record CanRemake (h : Hashing) (new : List (List ℕ)) (k i len : ℕ) (children : List Child) (block : List ℕ) : Type 0 where
  pub block_size : h.block_size ≡ length block
  pub inside : i * k < length new
  pub whole : len ≡ length (slice_chunk new k i)
  pub sized : (j : ℕ) → j < length new → length (slice_index_or new j []) ≡ h.digest_size
  pub named : AreNamed (λ j. slice_index_or new j []) children
  pub rising : IsNonDecreasingBy (λ child. child.number) children
  pub kept : (r : ℕ) → r < len → ((c : ℕ) → c < length children → (child_at children c).number ≡ i * k + r → ⊥)
      → slice_index_or (slots h.digest_size k block) r [] ≡ slice_index_or new (i * k + r) []

-- the block has become the hash block of run i of each such list of digests, which have `size` bytes
abbrev pub IsRemade : ℕ → ℕ → ℕ → ℕ → List Child → List ℕ → List ℕ → Type 0
IsRemade size k i len children old block = (h : Hashing) (new : List (List ℕ)) → h.digest_size ≡ size
    → CanRemake h new k i len children old → block ≡ hash_block h (slice_chunk new k i)
