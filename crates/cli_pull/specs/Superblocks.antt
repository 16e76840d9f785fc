-- The superblock that is laid in front of HASH's tree.
use Rattle.std.specs.Prelude.{◌≡◌, ◌⊎◌, ◌-◌, ℕ, List, length, Option, MatchOption}
use Rattle.verity_store.specs.Given.{GaveSince}
use Rattle.verity_store.specs.declared.store.BlockStore as store
use Rattle.verity_superblock.specs.Image.{superblock_block}
use Rattle.verity_superblock.specs.Line.{TableLine}
use Rattle.verity_superblock.specs.Reading.{Reads}
use Rattle.verity_superblock.specs.Superblock.{Params}

-- the parameters of a table line's volume, with this UUID
abbrev pub params_of : TableLine → List ℕ → Params
params_of t uuid = record {
  algorithm = t.algorithm;
  data_block_size = t.data_block_size;
  hash_block_size = t.hash_block_size;
  salt = t.salt;
  uuid = uuid;
}

-- these parameters and this count are those of a table line's volume
abbrev pub IsOfLine : Params → ℕ → TableLine → Type 0
IsOfLine p count t = (p ≡ params_of t p.uuid) × (count ≡ t.data_blocks)

-- between two states a store gave under this number a block that reads as a superblock of these parameters and this count
abbrev pub HasSuperblock : {D : Type 0} → store.Ghosts D → D → D → ℕ → Params → ℕ → Type 0
HasSuperblock facts d d' number p count = (block : List ℕ) × GaveSince (facts.given d') (length (facts.given d)) number block
    × Reads block p count

module _ {K H : Type 0} (local_hash : store.Ghosts K) (source_hash : store.Ghosts H) (k k' : K) (h h' : H) where
  -- the UUID that is named; else that of HASH's superblock, or that of the source's, which is one of the line
  abbrev pub IsUuid : (named : Option (List ℕ)) → (to : TableLine) → (start : ℕ) → List ℕ → Type 0
  IsUuid named to start uuid = MatchOption named
      (((p : Params) × (count : ℕ) × HasSuperblock local_hash k k' (start - 1) p count × (p.uuid ≡ uuid))
      ⊎ HasSuperblock source_hash h h' (to.hash_start_block - 1) (params_of to uuid) to.data_blocks)
      (λ asked. uuid ≡ asked)

  -- the superblock's block: of the line's volume with such a UUID; no matter which where HASH's tree begins at hash block 0
  abbrev pub IsSuperblock : (named : Option (List ℕ)) → (to : TableLine) → (start : ℕ) → List ℕ → Type 0
  IsSuperblock named to start block = (start ≡ 0)
      ⊎ ((uuid : List ℕ) × IsUuid named to start uuid × (block ≡ superblock_block (params_of to uuid) to.data_blocks))
