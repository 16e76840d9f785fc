-- The table line of an edited volume. The facts of a store of the type S are S.BlockStore.
use Rattle.std.specs.Prelude.{◌≡◌, ℕ, List, length}
use Rattle.verity_profile.specs.Profile.{AllSized}
use Rattle.verity_store.specs.declared.store.BlockStore as store
use Rattle.verity_superblock.specs.Line.{TableLine, algorithm_of}

module _ {D H : Type 0} (on_data : store.Ghosts D) (on_hash : store.Ghosts H) where
  -- the table line has the sizes and the count of the stores, and these values
  pub record IsLine (d : D) (h : H) (start : ℕ) (digest salt : List ℕ) (t : TableLine) : Type 0 where
    pub data_block_size : t.data_block_size ≡ on_data.size d
    pub hash_block_size : t.hash_block_size ≡ on_hash.size h
    pub data_blocks : t.data_blocks ≡ length (on_data.content d)
    pub sized : AllSized (on_data.size d) (on_data.content d)
    pub hash_start_block : t.hash_start_block ≡ start
    pub algorithm : t.algorithm ≡ algorithm_of digest
    pub root_is : t.root ≡ digest
    pub salt_is : t.salt ≡ salt
