-- Stores that are put in the place of an editor's.
use Rattle.std.specs.Prelude.{◌≡◌, true, length}
use Rattle.verity_store.specs.declared.store.BlockStore as store
use Rattle.verity_edit.specs.Editing.{Editing}

-- they have the sizes and the lengths of its own; and where both tell, so do its own, and they hold the same
pub record IsExchange {D H : Type 0} (data_facts : store.Ghosts D) (hash_facts : store.Ghosts H) (e : Editing D H) (data_store : D)
    (hash_store : H) : Type 0 where
  pub data_size : data_facts.size data_store ≡ data_facts.size e.data_store
  pub hash_size : hash_facts.size hash_store ≡ hash_facts.size e.hash_store
  pub data_len : length (data_facts.content data_store) ≡ length (data_facts.content e.data_store)
  pub hash_len : length (hash_facts.content hash_store) ≡ length (hash_facts.content e.hash_store)
  pub data_told : data_facts.tells data_store ≡ true → hash_facts.tells hash_store ≡ true → data_facts.tells e.data_store ≡ true
  pub hash_told : data_facts.tells data_store ≡ true → hash_facts.tells hash_store ≡ true → hash_facts.tells e.hash_store ≡ true
  pub data_same : data_facts.tells data_store ≡ true → hash_facts.tells hash_store ≡ true
      → data_facts.content data_store ≡ data_facts.content e.data_store
  pub hash_same : data_facts.tells data_store ≡ true → hash_facts.tells hash_store ≡ true
      → hash_facts.content hash_store ≡ hash_facts.content e.hash_store
