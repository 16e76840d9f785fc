-- What was read of a store for a superblock.
use Rattle.std.specs.Prelude.{◌≡◌, ℕ, ◌/◌, ◌%◌, true, List, [], ◌∷◌, ◌++◌}
use Rattle.std.specs.List.{slice_index_or}
use Rattle.verity_store.specs.declared.store.BlockStore as store
use Rattle.verity_superblock.specs.Reading.{Reads}
use Rattle.verity_superblock.specs.Superblock.{Volume}

-- of a store of 512 bytes a block these bytes were read at a byte offset, and nothing else; where it tells, they stand there
pub record IsReadOnce {D : Type 0} (facts : store.Ghosts D) (old new : D) (offset : ℕ) (bytes : List ℕ) : Type 0 where
  pub size : facts.size old ≡ 512
  pub aligned : offset % 512 ≡ 0
  pub gave : facts.given new ≡ facts.given old ++ (offset / 512, bytes) ∷ []
  pub told : facts.tells old ≡ true → slice_index_or (facts.content old) (offset / 512) [] ≡ bytes
  pub unchanged : facts.content new ≡ facts.content old

-- and they begin with this superblock
abbrev pub IsReadAs : {D : Type 0} → store.Ghosts D → (old new : D) → (offset : ℕ) → Volume → Type 0
IsReadAs facts old new offset volume = (bytes : List ℕ) × IsReadOnce facts old new offset bytes
    × Reads bytes volume.params volume.data_blocks
