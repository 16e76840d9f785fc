-- A verifier's two stores: what they gave, what they hold, and whether they are those of a table line. The facts of
-- a store of the type S are S.BlockStore.
use Rattle.std.specs.Prelude.{ℕ, ◌≤◌, ◌≡◌, true, List, [], length, drop, slice_index_or, All, Contains}
use Rattle.verity_store.specs.declared.store.BlockStore as store
use Rattle.verity_chain.specs.Table.{Table}
use Rattle.verity_chain.specs.Chain.{Given, given_by}
use Rattle.verity_chain.specs.Stores.{Gave}
use Rattle.verity_report.specs.Finding.{Held, held_by}

-- what a store gave between two moments, each block after its number
abbrev pub gave_between : {S : Type 0} → store.Ghosts S → S → S → List (ℕ × List ℕ)
gave_between facts old new = drop (length (facts.given old)) (facts.given new)

-- the block has the store's size, and is that of its content where it tells
abbrev pub IsOwn : {S : Type 0} → store.Ghosts S → S → ℕ × List ℕ → Type 0
IsOwn facts s (n, block) = (length block ≡ facts.size s) × (facts.tells s ≡ true → slice_index_or (facts.content s) n [] ≡ block)

-- all that it gave between two moments is so
abbrev pub GivesOwn : {S : Type 0} → store.Ghosts S → S → S → Type 0
GivesOwn facts old new = All (IsOwn facts old) (gave_between facts old new)

-- what two lists say was given at the places of the volume
abbrev pub listed_in : Table → List (ℕ × List ℕ) → List (ℕ × List ℕ) → Given
listed_in t data_gave hash_gave = given_by t (λ n block. Contains data_gave (n, block)) (λ n block. Contains hash_gave (n, block))

-- how many blocks each store had given at some moment
pub record Marks : Type 0 where
  pub of_data : ℕ
  pub of_hash : ℕ

module _ {D H : Type 0} (data_facts : store.Ghosts D) (hash_facts : store.Ghosts H) where
  -- what both stores gave since then at the places of the volume
  abbrev pub given_in : Table → Marks → D → H → Given
  given_in t marks d h = given_by t (Gave data_facts marks.of_data d) (Gave hash_facts marks.of_hash h)

  -- what both stores gave between two moments there
  abbrev pub given_between : Table → D → H → D → H → Given
  given_between t old_d old_h d h =
      given_in t (record { of_data = length (data_facts.given old_d); of_hash = length (hash_facts.given old_h) }) d h

  -- what both stores hold at the places of the volume
  abbrev pub held_in : Table → D → H → Held
  held_in t d h = held_by t (data_facts.content d) (hash_facts.content h)

  -- both stores tell
  abbrev pub BothTell : D → H → Type 0
  BothTell d h = (data_facts.tells d ≡ true) × (hash_facts.tells h ≡ true)

-- the data store has the table line's block size, and the blocks of the volume
pub record IsDataStoreOf {D : Type 0} (data_facts : store.Ghosts D) (t : Table) (d : D) : Type 0 where
  pub size : data_facts.size d ≡ t.data_block_size
  pub blocks : t.data_blocks ≤ length (data_facts.content d)
