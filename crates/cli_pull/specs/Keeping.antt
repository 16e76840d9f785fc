-- What a pull with its lines in files leaves of FILE and FILE.next.
use Rattle.std.specs.Prelude.{◌≡◌, ◌⊎◌, ◌<◌, ℕ, List, Option, Some, None, String, string_bytes, MatchOption, ⊤}
use Rattle.std.specs.Borrow.{Bor}
use Rattle.os_line_file.specs.Folder.{with_next, IsDurable, LeavesOnly}
use Rattle.os_line_file.specs.declared.folder.LineFolder as folder
use Rattle.os_line_file.specs.declared.folder.LineFolders as folders
use Rattle.os_files.specs.Reached.{BesideAt}
use Rattle.cli_faults.specs.declared.failure.Failure.{Failure}
use Rattle.os_files.specs.declared.system.System.{Ghosts}
use Rattle.verity_disks.specs.declared.disks.Disks as disks
use Rattle.verity_line_file.specs.Lines.{pulling, text_of, Holds}
use Rattle.verity_moved.specs.Moved.{Moving}
use Rattle.verity_pull.specs.declared.either.Counts.{Counts}
use Rattle.verity_store.specs.declared.store.BlockStore as store
use Rattle.verity_superblock.specs.Line.{TableLine, canonical}
use Rattle.cli_arguments.specs.declared.words.pull.PullWords.{PullWords}
use Rattle.cli_line_file.specs.Apart.{IsApart}
use Rattle.cli_line_file.specs.Files.{IsLineAt, IsNoLineIn, IsOpened, WasSeen}
use Rattle.cli_line_file.specs.Keeping.{only_line, KeepsOld, KeepsOldOr}
use Rattle.cli_pull.specs.Printed.{IsMade, IsPulledThere}
use Rattle.cli_pull.specs.Words.{own_line, IsAsked}
use Rattle.cli_pull.specs.declared.line.Asked.{Asked}

-- the table line that a text holds, as it is printed
abbrev pub IsPrinted : (held line : List ℕ) → Type 0
IsPrinted held line = (t : TableLine) × Holds held t × (line ≡ canonical t)

-- this is the line in FILE, or there is no FILE
abbrev pub IsHeldIn : Option (List ℕ) → Option (Bor (List ℕ)) → Type 0
IsHeldIn text table = MatchOption table (text ≡ None) (λ line. (held : List ℕ) × (text ≡ Some held) × IsPrinted held line.now)

abbrev pub IsHeld : {A : Type 0} → Option (List ℕ) → Option (String A) → Type 0
IsHeld text found = MatchOption found (text ≡ None) (λ line. (held : List ℕ) × (text ≡ Some held) × IsPrinted held (string_bytes line))

-- FILE and FILE.next are neither DATA nor HASH, nor the journal beside HASH, nor the file of `--to-file`
pub record IsApartFrom {S F D J : Type 0} (facts : Ghosts S F D J) (s : S) (words : PullWords) (path : List ℕ) : Type 0 where
  pub journal : List ℕ
  pub beside : BesideAt facts s words.hash_path.now journal
  pub of_data : IsApart facts s path words.data_path.now
  pub of_hash : IsApart facts s path words.hash_path.now
  pub of_journal : IsApart facts s path journal
  pub of_to : MatchOption words.to_file ⊤ (λ to. IsApart facts s path to.now)

module _ {G : Type 0} (folder : folder.Ghosts G) (old new : G) where
  -- a crash at any moment leaves FILE as it was
  abbrev pub StaysAtAnyMoment : Type 0
  StaysAtAnyMoment = LeavesOnly folder.moment folder.left_since old new (KeepsOld (folder.seen old) (folder.may_leave old))

  -- or with this line
  abbrev pub StaysOrHas : TableLine → Type 0
  StaysOrHas t = LeavesOnly folder.moment folder.left_since old new
      (KeepsOldOr (text_of t) (folder.seen old) (folder.may_leave old))

  -- FILE has this line and no other, there is no FILE.next, and a crash leaves it so
  pub record HasLine (t : TableLine) : Type 0 where
    pub only : folder.seen new ≡ only_line (text_of t)
    pub durable : IsDurable (folder.seen new) (folder.may_leave new)

  -- FILE.next says that a pull is under way, and a crash leaves it so; FILE is as it was
  pub record IsUnderWay : Type 0 where
    pub begun : folder.seen new ≡ with_next (Some pulling) (folder.seen old)
    pub durable : IsDurable (folder.seen new) (folder.may_leave new)
    pub any_moment : StaysAtAnyMoment

-- FILE has this line; or FILE.next says that a pull is under way, or the folder refused a call later
abbrev pub HasLineOrRefused : {G : Type 0} → folder.Ghosts G → (old new : G) → TableLine → Type 0
HasLineOrRefused folder old new t = HasLine folder old new t
    ⊎ ((mid : _) × IsUnderWay folder old mid
    × ((new ≡ mid) ⊎ ((before : _) × (folder.failures before < folder.failures new))))

module _ {S F D J G : Type 0} (facts : Ghosts S F D J) (stores : store.Ghosts D) (devices : disks.Ghosts J)
    (moving : store.Ghosts (Moving D)) (folder : folder.Ghosts G) (before after : S) (words : PullWords) where
  -- The pull was done, and FILE has the line that was printed; at any moment it was as before, or had this line. Neither it nor FILE.next
  -- is one of the volume's files.
  pub record IsPulledUnder (path : List ℕ) (old new : G) (out_old out_new : Option (List ℕ)) : Type 0 where
    pub there : IsPulledThere facts stores devices moving before after words out_old out_new
    pub kept : HasLine folder old new (own_line words there.asked)
    pub any_moment : StaysOrHas folder old new (own_line words there.asked)
    pub apart : IsApartFrom facts after words path

  -- it wasn't begun: nothing was made or written
  abbrev pub IsUntouched : (old new : G) → Type 0
  IsUntouched old new = (after ≡ before) × StaysAtAnyMoment folder old new

  -- it was begun: FILE.next says so
  abbrev pub IsBegun : (old new : G) → Type 0
  IsBegun old new = IsUnderWay folder old new

  -- the volume was made, and FILE may have its line
  pub record IsMadeWhole (old new : G) : Type 0 where
    pub asked : Asked
    pub counts : Counts
    pub is_asked : IsAsked words asked
    pub made : IsMade facts stores devices moving before after words asked counts
    pub kept : HasLineOrRefused folder old new (own_line words asked)
    pub any_moment : StaysOrHas folder old new (own_line words asked)

  -- what is left where the pull isn't done
  abbrev pub IsCutShort : (old new : G) → Type 0
  IsCutShort old new = IsUntouched old new ⊎ (IsBegun old new ⊎ IsMadeWhole old new)

module _ {S F D J G : Type 0} (facts : Ghosts S F D J) (stores : store.Ghosts D) (devices : disks.Ghosts J)
    (moving : store.Ghosts (Moving D)) (folder : folder.Ghosts G) (before after : S) (words : PullWords) where
  -- the same, where the line of the volume as it stands is the one in FILE
  pub record IsPulledInto (path : List ℕ) (old new : G) (out_old out_new : Option (List ℕ)) : Type 0 where
    pub table : Option (Bor (List ℕ))
    pub held : IsHeldIn (folder.seen old).line table
    pub under : IsPulledUnder facts stores devices moving folder before after (record words { table = table }) path old new out_old out_new

  abbrev pub IsCutInto : (old new : G) → Type 0
  IsCutInto old new = IsUntouched facts stores devices moving folder before after words old new
      ⊎ ((table : Option (Bor (List ℕ))) × IsHeldIn (folder.seen old).line table
      × IsCutShort facts stores devices moving folder before after (record words { table = table }) old new)

module _ {S F D J L G : Type 0} (facts : Ghosts S F D J) (stores : store.Ghosts D) (devices : disks.Ghosts J)
    (moving : store.Ghosts (Moving D)) (files : folders.Ghosts L G) (folder : folder.Ghosts G) (before after : S) where
  -- FILE, which stands apart from the volume's files, was opened and closed: it was pulled in between, with the line there
  pub record IsPulledAt (l new_l : L) (words : PullWords) (path : List ℕ) (out_old out_new : Option (List ℕ)) : Type 0 where
    pub old : G
    pub new : G
    pub is_opened : IsOpened files folder l new_l path old new
    pub apart : IsApartFrom facts before words path
    pub into : IsPulledInto facts stores devices moving folder before after words path old new out_old out_new

  -- it was pulled, with FILE where one is named; else no file is opened
  abbrev pub IsPulledTo : (l new_l : L) → PullWords → (out_old out_new : Option (List ℕ)) → Type 0
  IsPulledTo l new_l words out_old out_new = MatchOption words.table_file
      ((new_l ≡ l) × IsPulledThere facts stores devices moving before after words out_old out_new)
      (λ path. IsPulledAt l new_l words path.now out_old out_new)

  -- it was pulled, of the line `--to`, or of that in the file of `--to-file`, where one is named, which was opened and closed first
  abbrev pub IsPulledBy : (l new_l : L) → PullWords → (out_old out_new : Option (List ℕ)) → Type 0
  IsPulledBy l new_l words out_old out_new = MatchOption words.to_file (IsPulledTo l new_l words out_old out_new)
      (λ path. (to : Bor (List ℕ)) × (mid : L) × IsLineAt files folder l mid path.now to.now
      × IsPulledTo mid new_l (record words { to = to }) out_old out_new)

  -- FILE wasn't opened, and nothing was made or written
  abbrev pub IsUnopened : (l new_l : L) → Type 0
  IsUnopened l new_l = (new_l ≡ l) × (after ≡ before)

  -- FILE was opened and closed, and is left so, and the volume too
  abbrev pub IsLeftAt : (l new_l : L) → PullWords → List ℕ → Type 0
  IsLeftAt l new_l words path = (old new : G) × IsOpened files folder l new_l path old new
      × IsCutInto facts stores devices moving folder before after words old new

  -- what is left of FILE and of the volume where that isn't done
  abbrev pub IsLeftTo : (l new_l : L) → PullWords → Type 0
  IsLeftTo l new_l words = MatchOption words.table_file (new_l ≡ l) (λ path. IsUnopened l new_l ⊎ IsLeftAt l new_l words path.now)

  -- nothing was made or written, since the line in the file of `--to-file` isn't read: the file isn't opened, or was opened and closed
  abbrev pub IsUnread : (l new_l : L) → List ℕ → Failure → Type 0
  IsUnread l new_l path e = (after ≡ before) × ((new_l ≡ l) ⊎ WasSeen files folder l new_l path (λ texts. IsNoLineIn texts e))

  -- or what is left where its line is
  abbrev pub IsLeftBy : (l new_l : L) → PullWords → Failure → Type 0
  IsLeftBy l new_l words e = MatchOption words.to_file (IsLeftTo l new_l words)
      (λ path. IsUnread l new_l path.now e
      ⊎ ((to : Bor (List ℕ)) × (mid : L) × IsLineAt files folder l mid path.now to.now
      × IsLeftTo mid new_l (record words { to = to })))
