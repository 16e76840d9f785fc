-- A store under a table line: what it gave at the places of the volume, and whether it is that of the line. The facts of
-- a store of the type S are S.BlockStore.
use Rattle.std.specs.Prelude.{ℕ, ◌+◌, ◌<◌, ◌≤◌, ◌≡◌, true, List, [], length, slice_index_or}
use Rattle.verity_store.specs.Given.{GaveSince}
use Rattle.verity_store.specs.declared.store.BlockStore as store
use Rattle.verity_chain.specs.Table.{Table, tree_len}
use Rattle.verity_chain.specs.Chain.{Given, given_by}

-- behind the first `mark` of what it gave a store gave the block, of its size, for this number; and where it tells, this is the
-- block of its content
abbrev pub Gave : {S : Type 0} → store.Ghosts S → ℕ → S → ℕ → List ℕ → Type 0
Gave facts mark s n block = GaveSince (facts.given s) mark n block × (length block ≡ facts.size s)
    × (facts.tells s ≡ true → slice_index_or (facts.content s) n [] ≡ block)

-- what a hash store gave since then at the places of the tree
abbrev pub hash_given : {H : Type 0} → store.Ghosts H → Table → ℕ → H → Given
hash_given hash t mark h = given_by t (λ n block. ⊥) (Gave hash mark h)

-- the hash store has the table line's block size, and ends behind the tree, if there is a tree
pub record IsHashStoreOf {H : Type 0} (hash : store.Ghosts H) (t : Table) (h : H) : Type 0 where
  pub size : hash.size h ≡ t.hash_block_size
  pub tree : 0 < tree_len t → t.hash_start_block + tree_len t ≤ length (hash.content h)
