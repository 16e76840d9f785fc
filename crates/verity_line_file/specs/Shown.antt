-- What a volume shows of its table line: the values of its superblock, where its tree begins, and the digest of its top block.
use Rattle.std.specs.Prelude.{◌≡◌, ℕ, ◌==◌, ◌<◌, Bool, true, false, List, length}
use Rattle.verity_digest.specs.declared.algorithm.Algorithm.{Algorithm}
use Rattle.verity_digest.specs.Hash.{salted_digest}
use Rattle.verity_store.specs.Given.{GaveSince}
use Rattle.verity_store.specs.declared.store.BlockStore as store
use Rattle.verity_superblock.specs.Line.{TableLine}
use Rattle.verity_superblock.specs.Superblock.{Volume, salted}

-- all values of a table line but its two device fields
pub record Values : Type 0 where
  pub data_block_size : ℕ
  pub hash_block_size : ℕ
  pub data_blocks : ℕ
  pub hash_start_block : ℕ
  pub algorithm : Algorithm
  pub root : List ℕ
  pub salt : List ℕ

-- those of the superblock, of which the line has to have each
pub record HasSizes (v : Values) (t : TableLine) : Type 0 where
  pub data_size : t.data_block_size ≡ v.data_block_size
  pub hash_size : t.hash_block_size ≡ v.hash_block_size
  pub count : t.data_blocks ≡ v.data_blocks
  pub start : t.hash_start_block ≡ v.hash_start_block
  pub algorithm : t.algorithm ≡ v.algorithm
  pub salt : t.salt ≡ v.salt

-- the volume is that of the line: its values are the line's, and its top block has the line's root hash
pub record Shows (v : Values) (t : TableLine) : Type 0 where
  pub sizes : HasSizes v t
  pub root : t.root ≡ v.root

-- the values of a superblock in front of hash block `start`, and this digest
abbrev pub values_of : Volume → ℕ → List ℕ → Values
values_of volume start root = record {
  data_block_size = volume.params.data_block_size;
  hash_block_size = volume.params.hash_block_size;
  data_blocks = volume.data_blocks;
  hash_start_block = start;
  algorithm = volume.params.algorithm;
  root = root;
  salt = volume.params.salt;
}

-- the block that a store gave in this call for this number
abbrev pub GaveNow : {S : Type 0} → store.Ghosts S → (old new : S) → ℕ → List ℕ → Type 0
GaveNow facts old new n block = GaveSince (facts.given new) (length (facts.given old)) n block

-- the top block was given in this call: of a volume of one block its data block, else the first block of the tree
abbrev pub GaveTop : {D H : Type 0} → store.Ghosts D → store.Ghosts H → (d d' : D) → (h h' : H) → Bool → ℕ → List ℕ → Type 0
GaveTop on_data on_hash d d' h h' true start block = GaveNow on_data d d' 0 block
GaveTop on_data on_hash d d' h h' false start block = GaveNow on_hash h h' start block

-- the values are those of the superblock, and the digest is that of the top block as it was given
pub record IsShown {D H : Type 0} (on_data : store.Ghosts D) (on_hash : store.Ghosts H) (volume : Volume) (start : ℕ) (d d' : D) (h h' : H)
    (v : Values) : Type 0 where
  pub block : List ℕ
  pub gave : GaveTop on_data on_hash d d' h h' (volume.data_blocks == 1) start block
  pub values : v ≡ values_of volume start (salted_digest (salted volume.params) block)
