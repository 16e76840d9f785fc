-- What is found in FILE and FILE.next, over a system's folders, and why a line's file isn't used.
use Rattle.std.specs.Prelude.{◌≡◌, ◌⊎◌, ◌<◌, ℕ, true, List, Some, None, IsTrue, IsSome, IsUtf8, ⊤}
use Rattle.os_line_file.specs.Folder.{Texts}
use Rattle.os_line_file.specs.declared.folder.LineFolder as folder
use Rattle.os_line_file.specs.declared.folder.LineFolders as folders
use Rattle.cli_faults.specs.declared.failure.Failure.{Failure}
use Rattle.cli_faults.specs.declared.failure.Failure.TheVariants as failure
use Rattle.cli_faults.specs.declared.fault.Fault.TheVariants as fault
use Rattle.verity_line_file.specs.Lines.{line_of, is_one_line}
use Rattle.verity_store.specs.declared.fault.StoreFault.TheVariants as store
use Rattle.verity_superblock.specs.declared.faults.TableFault.TheVariants as table

-- a folder isn't opened: want of memory, or S1 for this reason
abbrev pub IsOfFolder : Type 0 → Failure → Type 0
IsOfFolder reason failure.NoMemory = ⊤
IsOfFolder reason (failure.Refused (fault.Store store.Device)) = reason
IsOfFolder reason _ = ⊥

-- the text is one line, with or without a line feed at its end, and UTF-8
abbrev pub IsText : List ℕ → Type 0
IsText held = IsTrue (is_one_line (line_of held)) × IsUtf8 (line_of held)

-- this line and no other stands in a file of this text
abbrev pub IsTheLine : (held text : List ℕ) → Type 0
IsTheLine held text = (line_of held ≡ text) × IsTrue (is_one_line text)

-- FILE holds this line and nothing else, and there is no FILE.next
abbrev pub IsLineIn : Texts → List ℕ → Type 0
IsLineIn texts text = (texts.next ≡ None) × ((held : List ℕ) × (texts.line ≡ Some held) × IsTheLine held text)

-- why FILE's line isn't read: S6, there is a FILE.next; S1, there is no FILE; L1, FILE is no line; want of memory
abbrev pub IsNoLineIn : Texts → Failure → Type 0
IsNoLineIn texts failure.NoMemory = ⊤
IsNoLineIn texts (failure.Refused fault.UnderWay) = IsSome texts.next
IsNoLineIn texts (failure.Refused (fault.Store store.Device)) = texts.line ≡ None
IsNoLineIn texts (failure.Refused (fault.Table table.Fields)) = (held : List ℕ) × (texts.line ≡ Some held) × (¬ IsText held)
IsNoLineIn texts _ = ⊥

module _ {L G : Type 0} (files : folders.Ghosts L G) (facts : folder.Ghosts G) where
  -- From the one system to the other leads that FILE's folder was opened and then closed, in that state or in another, and no other step.
  pub record IsOpened (l new_l : L) (path : List ℕ) (old new : G) : Type 0 where
    pub during : L
    pub opened : files.opens l path old during
    pub closed : files.closes during new new_l

  -- FILE's folder was opened and closed as it was opened, and its texts have P
  abbrev pub WasSeen : (old new : L) → List ℕ → (Texts → Type 0) → Type 0
  WasSeen old new path P = (opened : G) × IsOpened old new path opened opened × P (facts.seen opened)

  -- FILE holds this line and nothing else, and there is no FILE.next
  abbrev pub IsLineAt : (old new : L) → (path text : List ℕ) → Type 0
  IsLineAt old new path text = WasSeen old new path (λ texts. IsLineIn texts text)

  -- why FILE's line isn't read: no folder is opened, or by what is in it
  abbrev pub IsNoLineAt : (old new : L) → List ℕ → Failure → Type 0
  IsNoLineAt old new path e = ((new ≡ old) × IsOfFolder (files.refuses old ≡ true) e) ⊎ WasSeen old new path (λ texts. IsNoLineIn texts e)

  -- no folder is opened, or one that was failed later
  abbrev pub FolderFails : L → Type 0
  FolderFails l = (files.refuses l ≡ true) ⊎ ((old new : G) × (facts.failures old < facts.failures new))
