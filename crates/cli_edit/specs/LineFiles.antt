-- The file in which a volume's table line is kept, and what a work leaves of it.
use Rattle.std.specs.Prelude.{◌≡◌, ◌⊎◌, ◌++◌, ℕ, true, List, codes, Option, None, Some, ⊤}
use Rattle.std.specs.Borrow.{Bor}
use Rattle.cli_line_file.specs.Files.{IsOpened}
use Rattle.cli_line_file.specs.Settling.{IsSettledOver, SettlesBy, StaysUnlessFailed}
use Rattle.os_line_file.specs.declared.folder.LineFolder as folder
use Rattle.os_line_file.specs.declared.folder.LineFolders as folders
use Rattle.os_line_file.specs.Folder.{LeavesOnly}
use Rattle.cli_faults.specs.declared.failure.Failure.{Failure}
use Rattle.os_host.specs.declared.host.Host.{Host}
use Rattle.os_host.specs.declared.opening.Opened.{Opened}
use Rattle.os_host.specs.declared.paths.Paths.{Ghosts}
use Rattle.os_files.specs.declared.system.System as system
use Rattle.verity_store.specs.declared.store.BlockStore as store
use Rattle.cli_volume.specs.Kept.{FolderFails, IsLineSince, LeftLine, AsBefore, Holding, Unknown, holding}
use Rattle.cli_volume.specs.Lines.{volume_line}
use Rattle.cli_volume.specs.declared.kept.KeptLine.{KeptLine}
use Rattle.cli_volume.specs.declared.lines.Devices.{Devices}
use Rattle.cli_edit.specs.Journals.{IsJournalPath}

-- what was opened at both paths is one file or device; or nothing is seen at one of them
abbrev pub IsOneAt : {P : Type 0} → Ghosts P → P → (path other : List ℕ) → Type 0
IsOneAt facts p path other = ((a b : Opened) × facts.opens p path a × facts.opens p other b × (a.identity ≡ b.identity))
    ⊎ (facts.lacks p path ⊎ facts.lacks p other)

-- FILE, by its own path, or FILE.next beside it is what stands at a path
abbrev pub IsLineFileAt : {P : Type 0} → Ghosts P → P → (path other : List ℕ) → Type 0
IsLineFileAt facts p path other = (own : List ℕ) × facts.leads p path own
    × (IsOneAt facts p own other ⊎ IsOneAt facts p (own ++ codes ".next") other)

-- this is the path of one of a volume's files, or of its journal
abbrev pub IsPathOf : {P : Type 0} → Ghosts P → P → Option (Bor (List ℕ)) → (data_path hash_path path : List ℕ) → Type 0
IsPathOf facts p journal data_path hash_path path = (path ≡ data_path) ⊎ ((path ≡ hash_path) ⊎ IsJournalPath facts p journal hash_path path)

-- FILE or FILE.next is one of the volume's files, or its journal
abbrev pub IsTakenForLine : {P : Type 0} → Ghosts P → P → Option (Bor (List ℕ)) → Option (Bor (List ℕ)) → (data_path hash_path : List ℕ)
    → Type 0
IsTakenForLine facts p None journal data_path hash_path = ⊥
IsTakenForLine facts p (Some path) journal data_path hash_path = (other : List ℕ) × IsPathOf facts p journal data_path hash_path other
    × IsLineFileAt facts p path.now other

-- the system refused to open FILE, or a call on its folder failed
abbrev pub FileFails : {L F : Type 0} → folders.Ghosts L F → folder.Ghosts F → L → Option (Bor (List ℕ)) → Type 0
FileFails files facts l None = ⊥
FileFails files facts l (Some path) = (files.refuses l ≡ true) ⊎ FolderFails facts

-- what commits left of a folder: it is as it was; FILE holds a commit's line, and there is no FILE.next; or nothing is known
abbrev pub IsLeftIn : {F : Type 0} → folder.Ghosts F → Devices → (settled left : F) → LeftLine → Type 0
IsLeftIn facts devices settled left AsBefore = left ≡ settled
IsLeftIn facts devices settled left (Holding volume root) = facts.seen left ≡ holding (volume_line devices volume root)
IsLeftIn facts devices settled left Unknown = ⊤

-- what commits left of a line on these devices, and of FILE at any moment
pub record IsLeftLine {F : Type 0} (facts : folder.Ghosts F) (devices : Devices) (a b : KeptLine F) (left : LeftLine) : Type 0 where
  pub is_left : IsLeftIn facts devices a.file.folder b.file.folder left
  pub any_moment : LeavesOnly facts.moment facts.left_since a.file.folder b.file.folder (IsLineSince facts a.file.folder devices)

-- from one state of a folder to the other led commits on devices at these paths, of which a crash leaves of FILE at any moment what stood
-- there, or the line of one; or nothing was done
abbrev pub IsByCommits : {F : Type 0} → folder.Ghosts F → (data_path hash_path : List ℕ) → (settled last : F) → Type 0
IsByCommits facts data_path hash_path settled last = (last ≡ settled)
    ⊎ ((devices : Devices) × (devices.data_path.now ≡ data_path) × (devices.hash_path.now ≡ hash_path)
    × LeavesOnly facts.moment facts.left_since settled last (IsLineSince facts settled devices))

-- so of the folder of a line, where one is kept
abbrev pub IsChangedBy : {F : Type 0} → folder.Ghosts F → (old new : Option (KeptLine F)) → (data_path hash_path : List ℕ) → Type 0
IsChangedBy facts None None data_path hash_path = ⊤
IsChangedBy facts (Some a) (Some b) data_path hash_path = IsByCommits facts data_path hash_path a.file.folder b.file.folder
IsChangedBy facts _ _ data_path hash_path = ⊥

-- the line, where one is kept, is that of a volume on devices at these paths
abbrev pub IsAtPaths : {F : Type 0} → Option (KeptLine F) → (data_path hash_path : List ℕ) → Type 0
IsAtPaths None data_path hash_path = ⊤
IsAtPaths (Some line) data_path hash_path = (line.devices.data_path.now ≡ data_path) × (line.devices.hash_path.now ≡ hash_path)

-- whose tree begins at this hash block
abbrev pub BeginsAt : {F : Type 0} → Option (KeptLine F) → ℕ → Type 0
BeginsAt None start = ⊤
BeginsAt (Some line) start = line.devices.hash_start_block ≡ start

-- over the devices at these paths, what was answered there left this of a line that is kept
abbrev pub IsKeptBy : {F : Type 0} → folder.Ghosts F → (old new : Option (KeptLine F))
    → (Devices → Option (List ℕ) → Option (List ℕ) → ℕ → LeftLine → Type 0) → (data_path hash_path : List ℕ)
    → Option (List ℕ) → Option (List ℕ) → ℕ → Type 0
IsKeptBy facts None b leaves data_path hash_path old new status = ⊤
IsKeptBy facts (Some a) None leaves data_path hash_path old new status = ⊥
IsKeptBy facts (Some a) (Some b) leaves data_path hash_path old new status = (devices : Devices)
    × (devices.data_path.now ≡ data_path) × (devices.hash_path.now ≡ hash_path)
    × ((left : LeftLine) × leaves devices old new status left × IsLeftLine facts devices a b left)

module _ {P D J L G : Type 0} (paths : Ghosts P) (host : system.Ghosts (Host P) Opened D J) (stores : store.Ghosts D)
    (files : folders.Ghosts L G) (facts : folder.Ghosts G) (p : P) (data_path hash_path : List ℕ) where
  -- what was opened at both paths of a system, by these paths of it
  pub record OpenedThere : Type 0 where
    pub on : Host P
    pub same : on.paths.now ≡ p
    pub image : Opened
    pub device : Opened
    pub data_opened : paths.opens p data_path image
    pub hash_opened : paths.opens p hash_path device

  -- FILE was settled over the volume that was opened there
  abbrev pub IsSettledFile : (opened settled : G) → Type 0
  IsSettledFile opened settled = (v : OpenedThere)
      × IsSettledOver host stores files facts v.on data_path hash_path v.image v.device opened settled

  -- FILE is as it was, or its folder refused; a crash leaves meanwhile what it may leave while FILE is settled over the volume
  abbrev pub IsUnsettledFile : Failure → (opened last : G) → Type 0
  IsUnsettledFile e opened last = StaysUnlessFailed facts opened last e
      × ((v : OpenedThere) × LeavesOnly facts.moment facts.left_since opened last
      (SettlesBy host stores v.on data_path hash_path v.image v.device (facts.seen opened) (facts.may_leave opened)))

  -- FILE's folder, as it was opened, was settled, and then changed by commits alone, of which the answers say what they left. What a crash
  -- leaves of FILE meanwhile is what stood there once it was settled, or the line of a commit.
  pub record IsKeptFile (devices : Devices) (opened last : G) (left : LeftLine) : Type 0 where
    pub settled : G
    pub is_settled : IsSettledFile opened settled
    pub is_left : IsLeftIn facts devices settled last left
    pub any_moment : LeavesOnly facts.moment facts.left_since settled last (IsLineSince facts settled devices)

  -- it isn't settled; or it was, and then changed by commits alone
  abbrev pub IsLeftFile : Failure → (opened last : G) → Type 0
  IsLeftFile e opened last = IsUnsettledFile e opened last
      ⊎ ((settled : G) × IsSettledFile opened settled × IsByCommits facts data_path hash_path settled last)

  -- the line of a volume on devices at both paths, in FILE, where it is named: its folder was opened, and settled
  abbrev pub IsKeptLine : (old new : L) → Option (Bor (List ℕ)) → Option (KeptLine G) → Type 0
  IsKeptLine old new None kept = (kept ≡ None) × (new ≡ old)
  IsKeptLine old new (Some path) None = ⊥
  IsKeptLine old new (Some path) (Some kept) = (kept.devices.data_path.now ≡ data_path) × (kept.devices.hash_path.now ≡ hash_path)
      × ((opened : G) × files.opens old path.now opened new × IsSettledFile opened kept.file.folder)

  -- Where FILE is named, its folder was opened, and closed in the state that was left of it over the devices at both paths by what was
  -- answered there; no other step leads from the one system of folders to the other.
  abbrev pub IsKeptAt : (old new : L) → Option (Bor (List ℕ))
      → (Devices → Option (List ℕ) → Option (List ℕ) → ℕ → LeftLine → Type 0) → (before after : Option (List ℕ)) → ℕ → Type 0
  IsKeptAt old new None leaves before after status = new ≡ old
  IsKeptAt old new (Some path) leaves before after status = (devices : Devices)
      × (devices.data_path.now ≡ data_path) × (devices.hash_path.now ≡ hash_path)
      × ((opened last : G) × (left : LeftLine) × IsOpened files facts old new path.now opened last
      × leaves devices before after status left × IsKeptFile devices opened last left)

  -- No folder was opened; or FILE's was, and closed as it was left where the work isn't done.
  abbrev pub IsLeftAt : (old new : L) → Option (Bor (List ℕ)) → Failure → Type 0
  IsLeftAt old new file e = (new ≡ old)
      ⊎ ((path : Bor (List ℕ)) × (opened last : G) × (file ≡ Some path) × IsOpened files facts old new path.now opened last
      × IsLeftFile e opened last)
