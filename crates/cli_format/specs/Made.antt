-- What `format` makes a hash device of, and what it leaves.
use Rattle.std.specs.Prelude.{◌≡◌, ◌-◌, ◌^◌, ℕ, zero, suc, true, List, length, MatchOption, Option, Some, None, ⊤}
use Rattle.verity_profile.specs.Profile.{AllSized}
use Rattle.verity_digest.specs.Tree.{Hashing, root as tree_root}
use Rattle.verity_store.specs.Stores.{IsLater, IsOnlyRead}
use Rattle.verity_store.specs.declared.store.BlockStore as store
use Rattle.verity_superblock.specs.Image.{hash_blocks}
use Rattle.verity_build.specs.Given.{IsRootOfGiven}
use Rattle.verity_build.specs.Parameters.{front}
use Rattle.cli_faults.specs.Commands.{lock_of}
use Rattle.cli_faults.specs.declared.command.Command.{Command}
use Rattle.cli_faults.specs.declared.command.Command.TheVariants.{Format}
use Rattle.os_files.specs.declared.part.Part.{Part}
use Rattle.os_files.specs.declared.part.Part.TheVariants as part
use Rattle.os_files.specs.declared.system.System.{Ghosts}
use Rattle.cli_format.specs.declared.formatting.Shape.{Shape}

-- the part of DATA that is formatted: all, or as many of its first blocks as were asked for
abbrev pub data_part : Option ℕ → Part
data_part None = part.All
data_part (Some blocks) = part.First blocks

-- the part of HASH that is written: all anew, or behind what stands in front of the superblock
abbrev pub hash_part : (offset : ℕ) → Part
hash_part zero = part.New
hash_part (suc n) = part.AtMost (2 ^ 64 - 1)

-- the hash device of an image, made in a device of this content
abbrev pub device_of : Shape → (salt : List ℕ) → (image there : List (List ℕ)) → List (List ℕ)
device_of shape salt image there = hash_blocks (record {
  algorithm = shape.algorithm;
  data_block_size = shape.data_block_size;
  hash_block_size = shape.hash_block_size;
  salt = salt;
  uuid = shape.uuid;
}) image (front shape.hash_offset shape.hash_block_size there)

-- a store of what was opened at a path, and locked for a command: of as many blocks as were asked for, where so many were
abbrev pub LiesFor : {S F D J : Type 0} → Command → Ghosts S F D J → store.Ghosts D → S → List ℕ → Shape → D → Type 0
LiesFor command facts stores s path shape source = (opened : _) × facts.opens s path opened × facts.locks s opened (lock_of command)
    × facts.lies s opened (data_part shape.data_blocks) source
    × MatchOption shape.data_blocks ⊤ (λ blocks. length (stores.content source) ≡ blocks)

-- .. for `format`
abbrev pub LiesAsked : {S F D J : Type 0} → Ghosts S F D J → store.Ghosts D → S → List ℕ → Shape → D → Type 0
LiesAsked facts stores s path shape source = LiesFor Format facts stores s path shape source

-- what stands at a path was opened to be written, and locked, as the one store, and closed as the other; nothing else was
pub record IsLeft {S F D J : Type 0} (facts : Ghosts S F D J) (old new : S) (path : List ℕ) (shape : Shape) (target target' : D)
    : Type 0 where
  pub between : S
  pub opened : F
  pub is_opened : facts.opens_to_write old path opened between
  pub locked : facts.locks between opened (lock_of Format)
  pub there : facts.lies between opened (hash_part shape.hash_offset) target
  pub closed : facts.closes between path target' new

-- A root hash, and how many blocks it is of: of a store that was read, of which this holds, with blocks of this size. Where both stores
-- tell, the other was left as what is made of it.
pub record IsMadeOf {D : Type 0} (facts : store.Ghosts D) (lies : D → Type 0) (leaves : D → D → Type 0) (h : Hashing)
    (made : (image there : List (List ℕ)) → List (List ℕ)) (size blocks : ℕ) (digest : List ℕ) : Type 0 where
  pub source : D
  pub source' : D
  pub target : D
  pub target' : D
  pub there : lies source
  pub left : leaves target target'
  pub block_size : facts.size source ≡ size
  pub sized : AllSized size (facts.content source)
  pub read : IsOnlyRead facts source source'
  pub count : blocks ≡ length (facts.content source)
  pub root : IsRootOfGiven facts source source' h digest
  pub told : facts.tells source ≡ true → digest ≡ tree_root h (facts.content source)
  pub later : IsLater facts target target'
  pub written : facts.tells source ≡ true → facts.tells target ≡ true
      → facts.content target' ≡ made (facts.content source) (facts.content target)
  pub synced : facts.synced target' ≡ true
