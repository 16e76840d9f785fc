-- A table line that is kept in a file, and what commits do to it.
use Rattle.std.specs.Prelude.{◌≡◌, ◌⊎◌, ℕ, ◌<◌, Bool, true, false, List, Option, None, Some, ⊤}
use Rattle.os_line_file.specs.declared.folder.LineFolder as folder
use Rattle.os_line_file.specs.Folder.{Texts, with_next, KeepsLine, IsDurable, LeavesOnly}
use Rattle.verity_superblock.specs.Line.{TableLine}
use Rattle.verity_superblock.specs.Superblock.{Volume}
use Rattle.verity_line_file.specs.Lines.{text_of, HoldsWhole}
use Rattle.verity_line_file.specs.declared.line_file.LineFile.{LineFile}
use Rattle.cli_volume.specs.declared.kept.KeptLine.{KeptLine}
use Rattle.cli_volume.specs.declared.kept.Way.{Way}
use Rattle.cli_volume.specs.declared.kept.Way.TheVariants.{Journalled, InPlace}
use Rattle.cli_volume.specs.declared.lines.Devices.{Devices}
use Rattle.cli_volume.specs.Lines.{volume_line}
use Rattle.cli_volume.specs.Noting.{HasKeeper}

-- the system that a way asks
abbrev pub system_of : {P : Type 0} → Way P → P
system_of (Journalled commits) = commits.rt.now
system_of (InPlace commits) = commits.rt.now

-- no commit is made by it any more
abbrev pub is_broken_way : {P : Type 0} → Way P → Bool
is_broken_way (Journalled commits) = commits.is_broken
is_broken_way (InPlace commits) = commits.is_broken

-- the devices that stand for the volume's files are as they were; of files that are written in place nothing is known
abbrev pub IsUntouched : {P : Type 0} → (old new : Way P) → Type 0
IsUntouched (Journalled old) (Journalled new) = HasKeeper old.keeper new.keeper
IsUntouched (InPlace old) (InPlace new) = ⊤
IsUntouched _ _ = ⊥

-- no line is begun any more
abbrev pub is_stopped_line : {F : Type 0} → Option (KeptLine F) → Bool
is_stopped_line None = false
is_stopped_line (Some line) = line.is_stopped

-- the file in which a line is kept, where one is
abbrev pub file_of : {F : Type 0} → Option (KeptLine F) → Option (LineFile F)
file_of None = None
file_of (Some line) = Some line.file

-- a line whose volume's tree begins at this hash block
abbrev pub begun_at : {F : Type 0} → ℕ → KeptLine F → KeptLine F
begun_at start line = record line { devices = record line.devices { hash_start_block = start } }

-- a call on a folder failed
abbrev pub FolderFails : {F : Type 0} → folder.Ghosts F → Type 0
FolderFails facts = (old new : _) × (facts.failures old < facts.failures new)

-- a call on the folder of a line failed, where one is kept
abbrev pub LineFails : {F : Type 0} → folder.Ghosts F → Option (KeptLine F) → Type 0
LineFails facts None = ⊥
LineFails facts (Some line) = FolderFails facts

-- FILE holds this line, and there is no FILE.next
abbrev pub holding : TableLine → Texts
holding t = record { line = Some (text_of t); next = None }

-- FILE holds the line of this volume, with this root hash, and there is no FILE.next
abbrev pub HoldsLine : {F : Type 0} → folder.Ghosts F → KeptLine F → Volume → List ℕ → Type 0
HoldsLine facts line volume root = facts.seen line.file.folder ≡ holding (volume_line line.devices volume root)

abbrev pub HoldsLineOf : {F : Type 0} → folder.Ghosts F → Option (KeptLine F) → Volume → List ℕ → Type 0
HoldsLineOf facts None volume root = ⊤
HoldsLineOf facts (Some line) volume root = HoldsLine facts line volume root

-- FILE.next was made anew with this line, and all is on the device
pub record IsBegun {F : Type 0} (facts : folder.Ghosts F) (old new : F) (t : TableLine) : Type 0 where
  pub seen : facts.seen new ≡ with_next (Some (text_of t)) (facts.seen old)
  pub whole : HoldsWhole (text_of t) t
  pub durable : IsDurable (facts.seen new) (facts.may_leave new)

-- and while it was, FILE stayed
pub record WasBegun {F : Type 0} (facts : folder.Ghosts F) (old new : F) (t : TableLine) : Type 0 where
  pub begun : IsBegun facts old new t
  pub any_moment : LeavesOnly facts.moment facts.left_since old new (KeepsLine (facts.may_leave old))

-- on the way of a commit FILE.next was made anew with the line of a volume on these devices, before any device was changed
abbrev pub HasBegun : {F : Type 0} → folder.Ghosts F → KeptLine F → Type 0
HasBegun facts line = (begun : _) × (volume : Volume) × (root : List ℕ)
    × WasBegun facts line.file.folder begun (volume_line line.devices volume root)

abbrev pub HasBegunOf : {F : Type 0} → folder.Ghosts F → Option (KeptLine F) → Type 0
HasBegunOf facts None = ⊤
HasBegunOf facts (Some line) = HasBegun facts line

-- FILE is as it was seen, or as a crash might have left it then; or it holds the line of a volume on these devices
abbrev pub IsLineSince : {F : Type 0} → folder.Ghosts F → F → Devices → Texts → Type 0
IsLineSince facts old devices c = (c.line ≡ (facts.seen old).line)
    ⊎ (((d : Texts) × facts.may_leave old d × (c.line ≡ d.line))
    ⊎ ((volume : Volume) × (root : List ℕ) × (c.line ≡ Some (text_of (volume_line devices volume root)))))

-- By commits alone the one came to be the other. What a crash leaves of FILE at any moment is what stood there, or the line of a commit;
-- and FILE is so in the end, if the folder didn't fail. Then no line is begun any more.
pub record KeepsFile {F : Type 0} (facts : folder.Ghosts F) (a b : KeptLine F) : Type 0 where
  pub devices : b.devices ≡ a.devices
  pub any_moment : LeavesOnly facts.moment facts.left_since a.file.folder b.file.folder (IsLineSince facts a.file.folder a.devices)
  pub seen : (b.is_stopped ≡ true) ⊎ IsLineSince facts a.file.folder a.devices (facts.seen b.file.folder)
  pub stopped : a.is_stopped ≡ true → b ≡ a

abbrev pub KeepsFileOf : {F : Type 0} → folder.Ghosts F → (a b : Option (KeptLine F)) → Type 0
KeepsFileOf facts None None = ⊤
KeepsFileOf facts (Some a) (Some b) = KeepsFile facts a b
KeepsFileOf facts _ _ = ⊥

-- what commits left of the line: it is as it was; it is that of a commit, of this volume and with this root hash; or nothing is known
pub data LeftLine : Type 0 where
  AsBefore : LeftLine
  Holding : (volume : Volume) (root : List ℕ) → LeftLine
  Unknown : LeftLine

-- by commits that lead from one to the other
abbrev pub IsLeft : {C : Type 0} → (C → Volume → List ℕ → Type 0) → (old new : C) → LeftLine → Type 0
IsLeft holds old new AsBefore = new ≡ old
IsLeft holds old new (Holding volume root) = holds new volume root
IsLeft holds old new Unknown = ⊤
