-- What settles FILE and FILE.next of a volume.
use Rattle.std.specs.Prelude.{◌≡◌, ◌≢◌, ◌⊎◌, ◌<◌, ℕ, true, List, Option, Some, None, MatchOption, ⊤}
use Rattle.std.specs.Borrow.{Bor}
use Rattle.os_line_file.specs.Folder.{Texts, with_next, MayRemove, LeavesOnly, IsDurable}
use Rattle.os_line_file.specs.declared.folder.LineFolder as folder
use Rattle.os_line_file.specs.declared.folder.LineFolders as folders
use Rattle.cli_faults.specs.declared.failure.Failure.{Failure}
use Rattle.cli_faults.specs.declared.failure.Failure.TheVariants as failure
use Rattle.cli_faults.specs.declared.fault.Fault.TheVariants as fault
use Rattle.os_files.specs.declared.system.System.{Ghosts}
use Rattle.verity_line_file.specs.Lines.{pulling, Holds, HoldsWhole}
use Rattle.verity_line_file.specs.Outcome.{IsRefused, IsSettled}
use Rattle.verity_line_file.specs.Shown.{Values}
use Rattle.verity_line_file.specs.Standing.{Settles}
use Rattle.verity_line_file.specs.declared.fault.LineFileFault.TheVariants as why
use Rattle.verity_line_file.specs.declared.line_file.Settled.{Settled}
use Rattle.verity_pending.specs.declared.fault.EditFault.{EditFault}
use Rattle.verity_pending.specs.declared.fault.EditFault.TheVariants as edit
use Rattle.verity_store.specs.declared.store.BlockStore as store
use Rattle.verity_superblock.specs.Line.{TableLine}
use Rattle.cli_line_file.specs.Faults.{refused_folder, top_fault}
use Rattle.cli_line_file.specs.Files.{IsOfFolder, IsOpened}
use Rattle.cli_line_file.specs.Looking.{shape_of, AreLocked, HasPlaceOf, IsAbsent, IsAnother, IsShownBy}

-- FILE.next holds this line, whole
abbrev pub IsNextLine : Texts → TableLine → Type 0
IsNextLine texts t = (text : List ℕ) × (texts.next ≡ Some text) × HoldsWhole text t

-- it holds none
abbrev pub LacksNextLine : Texts → Type 0
LacksNextLine texts = (text : List ℕ) → texts.next ≡ Some text → (t : TableLine) → ¬ HoldsWhole text t

-- FILE holds this line
abbrev pub IsOldLine : Texts → TableLine → Type 0
IsOldLine texts t = (text : List ℕ) × (texts.line ≡ Some text) × Holds text t

-- FILE is there and holds none
abbrev pub HasNoLine : Texts → Type 0
HasNoLine texts = (text : List ℕ) × (texts.line ≡ Some text) × ((t : TableLine) → ¬ Holds text t)

-- the volume shows that it isn't FILE's: E13 where it has other values, E14 where its top block is another
abbrev pub IsOfValues : Values → Texts → EditFault → Type 0
IsOfValues v texts e = (IsRefused v texts why.Values × (e ≡ edit.Line)) ⊎ (IsRefused v texts why.Top × (e ≡ top_fault (shape_of v)))

-- FILE's line isn't read: FILE holds none; want of memory
abbrev pub IsNoLine : Texts → Failure → Type 0
IsNoLine texts failure.NoMemory = ⊤
IsNoLine texts (failure.Refused (fault.Table e)) = HasNoLine texts
IsNoLine texts _ = ⊥

-- no line says where the volume's superblock stands: FILE.next holds none, and there is no FILE
abbrev pub LacksBoth : Texts → Type 0
LacksBoth texts = LacksNextLine texts × (texts.line ≡ None)

-- which lines are asked, the first before the second: FILE.next's, and FILE's where that names another place; FILE's where FILE.next has
-- none
abbrev pub AreAsked : (next line : Option TableLine) → TableLine → Option (Bor TableLine) → Type 0
AreAsked next line first second =
    ((next ≡ Some first) × MatchOption second ((old : TableLine) → line ≡ Some old → HasPlaceOf old first)
    (λ t. (line ≡ Some t.now) × (¬ HasPlaceOf t.now first)))
    ⊎ ((next ≡ None) × (line ≡ Some first) × (second ≡ None))

module _ {S F D J : Type 0} (facts : Ghosts S F D J) (stores : store.Ghosts D) (s : S) (data_path hash_path : List ℕ)
    (image device : F) where
  -- the line by which the volume is looked at: FILE.next's; FILE's where FILE.next holds none, or where the volume isn't that of
  -- FILE.next's line and FILE's names another place
  abbrev pub IsAsked : Texts → TableLine → Type 0
  IsAsked texts t = IsNextLine texts t
      ⊎ (IsOldLine texts t × (LacksNextLine texts
      ⊎ ((next : TableLine) × IsNextLine texts next × (¬ HasPlaceOf t next)
      × IsAnother facts stores s data_path hash_path image device next)))

  -- what the volume shows by it
  abbrev pub IsSeen : Texts → Values → Type 0
  IsSeen texts v = (t : TableLine) × IsAsked texts t × IsShownBy facts stores s data_path hash_path image device t v

  -- both files are settled by what the volume shows; where no line says where to look, FILE.next is removed
  abbrev pub IsSettledBy : (old new : Texts) → Type 0
  IsSettledBy old new = (LacksBoth old × (new ≡ with_next None old))
      ⊎ ((v : Values) × IsSeen old v × ((done : Settled) × IsSettled v old new done))

  -- what a crash may leave meanwhile
  abbrev pub SettlesBy : Texts → (Texts → Type 0) → Texts → Type 0
  SettlesBy old may_leave c = may_leave c
      ⊎ ((LacksBoth old × MayRemove old c) ⊎ ((v : Values) × IsSeen old v × Settles v old may_leave c))

  -- no line of FILE's names another place
  abbrev pub IsAskedLast : Texts → TableLine → Type 0
  IsAskedLast texts t = IsAsked texts t × ((old : TableLine) → IsOldLine texts old → HasPlaceOf old t)

  -- the volume shows nothing by the line by which it is looked at last, or shows that it isn't FILE's
  abbrev pub IsUntold : Texts → EditFault → Type 0
  IsUntold texts e = (t : TableLine) × IsAskedLast texts t
      × (IsAbsent facts stores s data_path hash_path image device t e
      ⊎ ((v : Values) × IsShownBy facts stores s data_path hash_path image device t v × IsOfValues v texts e))

  -- why they aren't settled: FILE.next says that a pull is under way; FILE holds no line; the volume's fault; else what opening, reading
  -- and closing answer
  abbrev pub IsUnsettled : Texts → Failure → Type 0
  IsUnsettled texts failure.NoMemory = ⊤
  IsUnsettled texts (failure.Refused fault.UnderWay) = texts.next ≡ Some pulling
  IsUnsettled texts (failure.Refused (fault.Store e)) = ⊤
  IsUnsettled texts (failure.Refused (fault.Table e)) = HasNoLine texts
  IsUnsettled texts (failure.Refused (fault.Edit (edit.Store which))) = ⊤
  IsUnsettled texts (failure.Refused (fault.Edit e)) = IsUntold texts e
  IsUnsettled texts _ = ⊥

module _ {G : Type 0} (folder : folder.Ghosts G) where
  -- nothing was done, or the folder refused
  abbrev pub StaysUnlessFailed : (old new : G) → Failure → Type 0
  StaysUnlessFailed old new e = (new ≡ old) ⊎ ((e ≡ refused_folder) × (folder.failures old < folder.failures new))

  -- nothing was done, or the folder refused, at once or later
  abbrev pub StaysUnlessFailedLater : (old new : G) → Failure → Type 0
  StaysUnlessFailedLater old new e = (new ≡ old)
      ⊎ ((e ≡ refused_folder) × ((before : G) × (folder.failures before < folder.failures new)))

module _ {S F D J L G : Type 0} (facts : Ghosts S F D J) (stores : store.Ghosts D) (files : folders.Ghosts L G) (folder : folder.Ghosts G)
  where
    -- Over the volume in these two files, FILE has the line of the volume, if there is a FILE, and there is no FILE.next; where there was
    -- none, nothing was done. A crash leaves what it may leave meanwhile.
    abbrev pub IsSettledOver : S → (data_path hash_path : List ℕ) → (image device : F) → (old new : G) → Type 0
    IsSettledOver s data_path hash_path image device old new = (((folder.seen old).next ≡ None) × (new ≡ old))
        ⊎ (((folder.seen old).next ≢ Some pulling)
        × IsSettledBy facts stores s data_path hash_path image device (folder.seen old) (folder.seen new)
        × IsDurable (folder.seen new) (folder.may_leave new)
        × LeavesOnly folder.moment folder.left_since old new
        (SettlesBy facts stores s data_path hash_path image device (folder.seen old) (folder.may_leave old)))

    -- The folder of FILE's path was opened, led to another state of it, and was closed so: there FILE is settled, over the volume at both
    -- paths, which was locked where there was a FILE.next.
    pub record IsSettledIn (s : S) (l new_l : L) (data_path hash_path path : List ℕ) : Type 0 where
      pub old : G
      pub new : G
      pub is_opened : IsOpened files folder l new_l path old new
      pub settled : (((folder.seen old).next ≡ None) × (new ≡ old))
          ⊎ ((image device : F) × AreLocked facts s data_path hash_path image device
          × IsSettledOver s data_path hash_path image device old new)

    -- FILE was looked at, and closed as it was
    pub record IsLooked (l new_l : L) (path : List ℕ) : Type 0 where
      pub seen : G
      pub is_opened : IsOpened files folder l new_l path seen seen

    -- it was settled, at once, or once it was looked at and the volume was locked
    abbrev pub IsSettledAt : S → (l new_l : L) → (data_path hash_path path : List ℕ) → Type 0
    IsSettledAt s l new_l data_path hash_path path = IsSettledIn s l new_l data_path hash_path path
        ⊎ ((mid : L) × IsLooked l mid path × IsSettledIn s mid new_l data_path hash_path path)

    -- the folder was left as it was, or refused a call; then a crash leaves what it may leave meanwhile
    abbrev pub IsLeftIn : S → (l new_l : L) → (data_path hash_path path : List ℕ) → Failure → Type 0
    IsLeftIn s l new_l data_path hash_path path e = (old new : G) × IsOpened files folder l new_l path old new
        × ((new ≡ old)
        ⊎ ((e ≡ refused_folder) × (folder.failures old < folder.failures new)
        × ((image device : F) × AreLocked facts s data_path hash_path image device
        × LeavesOnly folder.moment folder.left_since old new
        (SettlesBy facts stores s data_path hash_path image device (folder.seen old) (folder.may_leave old)))))

    -- no folder is opened; or what was is left so
    abbrev pub IsLeftAt : S → (l new_l : L) → (data_path hash_path path : List ℕ) → Failure → Type 0
    IsLeftAt s l new_l data_path hash_path path e = ((new_l ≡ l) × IsOfFolder (files.refuses l ≡ true) e)
        ⊎ (IsLooked l new_l path
        ⊎ ((mid : L) × IsLooked l mid path × IsLeftIn s mid new_l data_path hash_path path e))
