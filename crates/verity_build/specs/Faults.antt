-- When which fault is answered.
use Rattle.std.specs.Prelude.{◌≡◌, ℕ}
use Rattle.verity_profile.specs.Profile.{IsBlockCount}
use Rattle.verity_geometry.specs.declared.fault.GeometryFault.TheVariants.{BadCount}
use Rattle.verity_store.specs.declared.fault.Which.{Which}
use Rattle.verity_store.specs.declared.fault.Which.TheVariants as which
use Rattle.verity_superblock.specs.Image.{CanBegin}
use Rattle.verity_build.specs.declared.fault.BuildFault.{BuildFault}
use Rattle.verity_build.specs.declared.fault.BuildFault.TheVariants.{Geometry, Store, NoMemory, Offset}

-- the store that is named has failed
abbrev pub HasFailed : Type 0 → Type 0 → Which → Type 0
HasFailed data_failed hash_failed which.Data = data_failed
HasFailed data_failed hash_failed which.Hash = hash_failed

-- there is a tree over so many blocks, and it can begin behind a superblock at this offset
abbrev pub CanBuild : ℕ → ℕ → ℕ → Type 0
CanBuild blocks offset hash_size = IsBlockCount blocks × CanBegin offset hash_size

-- the first that applies: the count isn't one of a volume; the offset; memory, or a store that failed
abbrev pub Explains : ℕ → ℕ → ℕ → Type 0 → Type 0 → BuildFault → Type 0
Explains blocks offset hash_size data_failed hash_failed (Geometry fault) = (fault ≡ BadCount) × ¬ (IsBlockCount blocks)
Explains blocks offset hash_size data_failed hash_failed Offset = IsBlockCount blocks × ¬ (CanBegin offset hash_size)
Explains blocks offset hash_size data_failed hash_failed NoMemory = CanBuild blocks offset hash_size
Explains blocks offset hash_size data_failed hash_failed (Store store) = CanBuild blocks offset hash_size ×
    HasFailed data_failed hash_failed store
