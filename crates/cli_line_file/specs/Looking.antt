-- What a volume shows at the place that a table line names for its superblock.
use Rattle.std.specs.Borrow.{Bor}
use Rattle.std.specs.Prelude.{◌≡◌, ◌≢◌, ◌⊎◌, ◌<◌, ◌≤◌, ◌*◌, ◌+◌, ◌-◌, ◌^◌, ℕ, List, length, Option, Some, MatchOption, ⊤}
use Rattle.cli_faults.specs.Faults.{failure_of}
use Rattle.cli_faults.specs.declared.command.Lock.TheVariants as lock
use Rattle.cli_faults.specs.declared.failure.Failure.{Failure}
use Rattle.cli_faults.specs.declared.failure.Failure.TheVariants as failure
use Rattle.cli_faults.specs.declared.fault.Fault.TheVariants as fault
use Rattle.os_files.specs.declared.part.Part.TheVariants.{AtMost}
use Rattle.os_files.specs.declared.system.System.{Ghosts}
use Rattle.verity_digest.specs.Hash.{size_of}
use Rattle.verity_geometry.specs.Geometry.{Shape}
use Rattle.verity_line_file.specs.Shown.{IsShown, Shows, Values}
use Rattle.verity_pending.specs.declared.fault.EditFault.{EditFault}
use Rattle.verity_pending.specs.declared.fault.EditFault.TheVariants as edit
use Rattle.verity_store.specs.declared.store.BlockStore as store
use Rattle.verity_superblock.specs.Line.{TableLine}
use Rattle.verity_superblock.specs.Reading.{Reads, refusal}
use Rattle.verity_superblock.specs.Superblock.{Volume}
use Rattle.verity_superblock.specs.declared.faults.SuperFault.TheVariants as super
use Rattle.cli_line_file.specs.Faults.{top_fault}
use Rattle.cli_line_file.specs.declared.looking.Look.{Look}
use Rattle.cli_line_file.specs.declared.looking.Look.TheVariants as look

-- the byte offset of the superblock that stands in front of the tree of a table line
abbrev pub place_of : TableLine → ℕ
place_of t = (t.hash_start_block - 1) * t.hash_block_size

-- two lines name one place for the tree
abbrev pub HasPlaceOf : TableLine → TableLine → Type 0
HasPlaceOf t other = (t.hash_start_block ≡ other.hash_start_block) × (t.hash_block_size ≡ other.hash_block_size)

-- a file isn't opened or read: S1 to S4, E6, want of memory
abbrev pub IsBroken : Failure → Type 0
IsBroken failure.NoMemory = ⊤
IsBroken (failure.Refused (fault.Store f)) = ⊤
IsBroken (failure.Refused (fault.Edit (edit.Store which))) = ⊤
IsBroken _ = ⊥

-- the shape of a volume that shows this
abbrev pub shape_of : Values → Shape
shape_of v = record {
  data_size = v.data_block_size;
  hash_size = v.hash_block_size;
  digest_size = size_of v.algorithm;
  blocks = v.data_blocks;
}

-- the volume is a line's, by what was found of it
abbrev pub IsOf : Look → TableLine → Type 0
IsOf (look.Shown v top) t = Shows v t
IsOf (look.Absent why) t = ⊥

module _ {S F D J : Type 0} (facts : Ghosts S F D J) where
  -- DATA and HASH were opened at their paths, and no other program works on them
  pub record AreLocked (s : S) (data_path hash_path : List ℕ) (image device : F) : Type 0 where
    pub data_opened : facts.opens s data_path image
    pub hash_opened : facts.opens s hash_path device
    pub data_locked : facts.locks s image lock.Alone
    pub hash_locked : facts.locks s device lock.Alone

  -- 512 bytes of HASH were read where a line's superblock stands
  pub record IsRead (s : S) (device : F) (t : TableLine) (bytes : List ℕ) : Type 0 where
    pub behind : 1 ≤ t.hash_start_block
    pub read : facts.reads s device (place_of t) bytes
    pub whole : length bytes ≡ 512

  -- and they are that of this volume
  pub record IsSuperblock (s : S) (device : F) (t : TableLine) (volume : Volume) : Type 0 where
    pub bytes : List ℕ
    pub read : IsRead s device t bytes
    pub decoded : Reads bytes volume.params volume.data_blocks

  -- what was opened at a path once more is the same file or device, and a store lies over it: of a device over the first
  -- blocks, at most so many
  pub record IsOver (stores : store.Ghosts D) (s : S) (path : List ℕ) (locked : F) (blocks size : ℕ) (over : D) : Type 0 where
    pub file : F
    pub opened : facts.opens s path file
    pub same : facts.identity file ≡ facts.identity locked
    pub lies : facts.lies s file (AtMost blocks) over
    pub sized : stores.size over ≡ size

  -- the stores of a volume's two files
  pub record AreStores (stores : store.Ghosts D) (s : S) (data_path hash_path : List ℕ) (image device : F) (volume : Volume)
      (of_data of_hash : D) : Type 0 where
    pub over_data : IsOver stores s data_path image volume.data_blocks volume.params.data_block_size of_data
    pub over_hash : IsOver stores s hash_path device (2 ^ 64 - 1) volume.params.hash_block_size of_hash

  -- what a volume shows by a line: its superblock stands in front of the line's tree and has the line's hash block size, and its top block
  -- was given by one of two stores over DATA and HASH
  pub record IsShownBy (stores : store.Ghosts D) (s : S) (data_path hash_path : List ℕ) (image device : F) (t : TableLine) (v : Values)
      : Type 0 where
    pub volume : Volume
    pub found : IsSuperblock s device t volume
    pub same_size : volume.params.hash_block_size ≡ t.hash_block_size
    pub of_data : D
    pub data_left : D
    pub of_hash : D
    pub hash_left : D
    pub over : AreStores stores s data_path hash_path image device volume of_data of_hash
    pub shown : IsShown stores stores volume t.hash_start_block of_data data_left of_hash hash_left v

  -- why no superblock is found by a line: E13 where none can stand there; E9 where none does
  abbrev pub IsNoSuperblock : S → F → TableLine → EditFault → Type 0
  IsNoSuperblock s device t edit.Line = t.hash_start_block ≡ 0
  IsNoSuperblock s device t (edit.Superblock why) = ((why ≡ super.Short) × (facts.len device < place_of t + 512))
      ⊎ ((bytes : List ℕ) × IsRead s device t bytes × (refusal bytes ≡ Some why))
  IsNoSuperblock s device t _ = ⊥

  -- why the top block of a volume isn't found: E10 where DATA ends before it, E14 where HASH does
  abbrev pub IsCutShort : store.Ghosts D → TableLine → (of_data of_hash : D) → EditFault → Type 0
  IsCutShort stores t of_data of_hash edit.DataLength = length (stores.content of_data) ≡ 0
  IsCutShort stores t of_data of_hash (edit.Untrusted level index) = length (stores.content of_hash) ≤ t.hash_start_block
  IsCutShort stores t of_data of_hash _ = ⊥

  -- it has another hash block size than the line: E13
  abbrev pub IsOfOtherSize : S → F → TableLine → EditFault → Type 0
  IsOfOtherSize s device t why = (why ≡ edit.Line)
      × ((volume : Volume) × IsSuperblock s device t volume × (volume.params.hash_block_size ≢ t.hash_block_size))

  -- why a volume shows nothing by a line
  abbrev pub IsAbsent : store.Ghosts D → S → (data_path hash_path : List ℕ) → (image device : F) → TableLine → EditFault → Type 0
  IsAbsent stores s data_path hash_path image device t why = IsNoSuperblock s device t why
      ⊎ (IsOfOtherSize s device t why
      ⊎ ((volume : Volume) × IsSuperblock s device t volume
      × ((of_data of_hash : D) × AreStores stores s data_path hash_path image device volume of_data of_hash
      × IsCutShort stores t of_data of_hash why)))

  -- the volume isn't a line's: there is none by it, or it shows another
  abbrev pub IsAnother : store.Ghosts D → S → (data_path hash_path : List ℕ) → (image device : F) → TableLine → Type 0
  IsAnother stores s data_path hash_path image device t =
      ((why : EditFault) × IsAbsent stores s data_path hash_path image device t why)
      ⊎ ((v : Values) × IsShownBy stores s data_path hash_path image device t v × (¬ Shows v t))

  -- what was found of a volume by a line
  abbrev pub IsLook : store.Ghosts D → S → (data_path hash_path : List ℕ) → (image device : F) → TableLine → Look → Type 0
  IsLook stores s data_path hash_path image device t (look.Shown v top) =
      IsShownBy stores s data_path hash_path image device t v × (top ≡ top_fault (shape_of v))
  IsLook stores s data_path hash_path image device t (look.Absent why) =
      IsAbsent stores s data_path hash_path image device t why

  -- what a volume shows by a first line, where it is that line's or there is no second one; else by the second one
  abbrev pub ShowsEither : store.Ghosts D → S → (data_path hash_path : List ℕ) → (image device : F) → TableLine → Option (Bor TableLine)
      → Values → Type 0
  ShowsEither stores s data_path hash_path image device first second v =
      (IsShownBy stores s data_path hash_path image device first v × MatchOption second ⊤ (λ _. Shows v first))
      ⊎ MatchOption second ⊥ (λ t. IsAnother stores s data_path hash_path image device first
      × IsShownBy stores s data_path hash_path image device t.now v)

  -- it shows nothing by the line that is asked last
  abbrev pub IsAbsentByEither : store.Ghosts D → S → (data_path hash_path : List ℕ) → (image device : F) → TableLine
      → Option (Bor TableLine) → EditFault → Type 0
  IsAbsentByEither stores s data_path hash_path image device first second why = MatchOption second
      (IsAbsent stores s data_path hash_path image device first why)
      (λ t. IsAnother stores s data_path hash_path image device first
      × IsAbsent stores s data_path hash_path image device t.now why)

  -- and that is why nothing is shown; or a file isn't opened or read
  abbrev pub IsUnseen : store.Ghosts D → S → (data_path hash_path : List ℕ) → (image device : F) → TableLine → Option (Bor TableLine)
      → Failure → Type 0
  IsUnseen stores s data_path hash_path image device first second e = IsBroken e
      ⊎ ((why : EditFault) × (e ≡ failure_of (fault.Edit why))
      × IsAbsentByEither stores s data_path hash_path image device first second why)
