-- What `format --slice` and `format --join` make, leave and print.
use Rattle.std.specs.Prelude.{◌≡◌, ℕ, ◌+◌, ◌-◌, ◌^◌, ◌<◌, true, List, length, Contains, Option, Some, IfSome}
use Rattle.std.specs.Io.KnownBytes.{Appends}
use Rattle.verity_digest.specs.Hash.{hashing}
use Rattle.verity_geometry.specs.Geometry.{Shape as TreeShape, levels_of, start_of, len_of}
use Rattle.verity_slice.specs.Slices.{Sliced, Covers, run_of}
use Rattle.verity_slice.specs.declared.run.Run.{Run}
use Rattle.verity_store.specs.Stores.{IsLater, IsOnlyRead}
use Rattle.verity_store.specs.declared.store.BlockStore as store
use Rattle.verity_superblock.specs.Image.{start_behind}
use Rattle.verity_superblock.specs.Line.{IsTableLine, canonical}
use Rattle.verity_build.specs.Given.{IsRootOfGiven}
use Rattle.verity_build.specs.Parameters.{Parameters, salted_by, shape_over}
use Rattle.verity_slices.specs.Given.{IsRootOfGivenLevel}
use Rattle.verity_slices.specs.Joins.{Joins}
use Rattle.verity_slices.specs.Leaves.{GrowsBeside, HoldsGivenLeaves, HoldsLeaves}
use Rattle.verity_slices.specs.Level.{leaves_of}
use Rattle.cli_faults.specs.Commands.{lock_of}
use Rattle.cli_faults.specs.Faults.{line}
use Rattle.cli_faults.specs.Words.{salt_of}
use Rattle.cli_faults.specs.declared.command.Command.{Command}
use Rattle.os_files.specs.declared.part.Part.TheVariants.{AtMost}
use Rattle.os_files.specs.declared.system.System.{Ghosts}
use Rattle.cli_arguments.specs.declared.words.format.FormatWords.{FormatWords}
use Rattle.cli_arguments.specs.Slices.{NamesSlice}
use Rattle.cli_format.specs.Asked.{Tells, run_line}
use Rattle.cli_format.specs.Formatting.{IsAsked, line_made}
use Rattle.cli_format.specs.declared.formatting.Made.{Made}
use Rattle.cli_format.specs.declared.formatting.Shape.{Shape}

-- the parameters of a volume that is asked for
abbrev pub asked_for : Shape → (salt : List ℕ) → Parameters
asked_for shape salt = record { algorithm = shape.algorithm; salt = salt; uuid = shape.uuid }

-- what stands at a path was opened to be written, and locked for a command, as the one store, which is over all of it, and closed as the
-- other; nothing else was
pub record IsLeftBy {S F D J : Type 0} (facts : Ghosts S F D J) (command : Command) (old new : S) (path : List ℕ) (target target' : D)
    : Type 0 where
  pub between : S
  pub opened : F
  pub is_opened : facts.opens_to_write old path opened between
  pub locked : facts.locks between opened (lock_of command)
  pub there : facts.lies between opened (AtMost (2 ^ 64 - 1)) target
  pub closed : facts.closes between path target' new

module _ {D : Type 0} (facts : store.Ghosts D) where
  -- the shape of the tree of one store's blocks that stands in another
  abbrev pub shape_in : Parameters → D → D → TreeShape
  shape_in p source target = shape_over p (facts.size source) (facts.size target) (length (facts.content source))

  -- A slice that was made, of a store of which the one holds, which was only read; the other store, of which `leaves` holds, was left with
  -- the slice's blocks where the tree has them, and no other block changed.
  pub record IsSliceMade (lies : D → Type 0) (leaves : D → D → Type 0) (p : Parameters) (offset : ℕ) (slice : Sliced) (run : Run)
      : Type 0 where
    pub source : D
    pub source' : D
    pub target : D
    pub target' : D
    pub there : lies source
    pub left : leaves target target'
    pub read : IsOnlyRead facts source source'
    pub later : IsLater facts target target'
    pub made : run ≡ run_of slice (leaves_of (shape_in p source target))
    pub stored : facts.tells source ≡ true → facts.tells target ≡ true
        → HoldsLeaves (hashing (salted_by p) (facts.size target)) (shape_in p source target) (start_behind offset (facts.size target))
        (facts.content source) run (facts.content target')
    pub given : facts.tells target ≡ true → HoldsGivenLeaves facts source source' (hashing (salted_by p) (facts.size target))
        (shape_in p source target) (start_behind offset (facts.size target)) run (facts.content target')
    pub grows : GrowsBeside (shape_in p source target) (start_behind offset (facts.size target)) run (facts.content target)
        (facts.content target')
    pub synced : facts.synced target' ≡ true

  -- A join that was told these runs, over a store of which the one holds; the other store, of which `leaves` holds, was left as the hash
  -- device over level 0 as it stands, whose root hash this is.
  pub record IsJoinMade (lies : D → Type 0) (leaves : D → D → Type 0) (p : Parameters) (offset : ℕ) (runs : List Run) (blocks : ℕ)
      (digest : List ℕ) : Type 0 where
    pub source : D
    pub source' : D
    pub target : D
    pub target' : D
    pub there : lies source
    pub left : leaves target target'
    pub read : IsOnlyRead facts source source'
    pub later : IsLater facts target target'
    pub count : blocks ≡ length (facts.content source)
    pub covered : Covers runs (leaves_of (shape_in p source target))
    pub joined : facts.tells source ≡ true → facts.tells target ≡ true
        → Joins p (shape_in p source target) offset (facts.content source) runs (facts.content target) (facts.content target') digest
    pub given : 0 < levels_of (shape_in p source target) → IsRootOfGivenLevel facts target target'
        (start_behind offset (facts.size target) + start_of (shape_in p source target) 0) (len_of (shape_in p source target) 0)
        (hashing (salted_by p) (facts.size target)) digest
    pub given_single : levels_of (shape_in p source target) ≡ 0
        → IsRootOfGiven facts source source' (hashing (salted_by p) (facts.size target)) digest
    pub synced : facts.synced target' ≡ true

  -- what `format --slice` prints: the line of the run of the slice that was asked for, which was made with what the other options ask for
  pub record IsSliced (lies : Shape → D → Type 0) (leaves : D → D → Type 0) (words : FormatWords) (asked : List ℕ)
      (old new : Option (List ℕ)) : Type 0 where
    pub shape : Shape
    pub salt : List ℕ
    pub slice : Sliced
    pub run : Run
    pub shaped : IsAsked words shape
    pub salted : salt_of words.salt.now ≡ Some salt
    pub named : NamesSlice asked slice
    pub made : IsSliceMade (lies shape) leaves (asked_for shape salt) shape.hash_offset slice run
    pub printed : Appends old new (run_line run)

  -- what `format --join` prints: the table line of what it made with what the options ask for; each run that it was told stands in a line
  -- of its input
  pub record IsJoined (lies : Shape → D → Type 0) (leaves : D → D → Type 0) (words : FormatWords) (input : Option (List ℕ))
      (old new : Option (List ℕ)) : Type 0 where
    pub shape : Shape
    pub salt : List ℕ
    pub runs : List Run
    pub made : Made
    pub shaped : IsAsked words shape
    pub salted : salt_of words.salt.now ≡ Some salt
    pub told : IfSome input (λ text. (run : Run) → Contains runs run → Tells text run)
    pub joined : IsJoinMade (lies shape) leaves (asked_for shape salt) shape.hash_offset runs made.data_blocks made.root
    pub start : made.hash_start_block ≡ start_behind shape.hash_offset shape.hash_block_size
    pub profile : IsTableLine (line_made words shape made salt)
    pub printed : Appends old new (line (canonical (line_made words shape made salt)))
