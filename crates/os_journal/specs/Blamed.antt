-- Why a volume isn't recovered.
use Rattle.std.specs.Prelude.{◌≡◌, ◌⊎◌, true, List, ℕ, ⊤, Option, Some}
use Rattle.std.specs.Borrow.{Bor}
use Rattle.cli_faults.specs.Errors.{IsOfSystem}
use Rattle.cli_faults.specs.declared.failure.Failure.{Failure}
use Rattle.cli_faults.specs.declared.failure.Failure.TheVariants as failure
use Rattle.cli_faults.specs.declared.failure.Word.TheVariants as word
use Rattle.cli_faults.specs.declared.fault.Fault.{Fault}
use Rattle.cli_faults.specs.declared.fault.Fault.TheVariants as fault
use Rattle.os_files.specs.declared.system.System.{Ghosts}
use Rattle.verity_disks.specs.declared.disks.Device.{Device}
use Rattle.verity_disks.specs.declared.disks.Device.TheVariants as device
use Rattle.verity_disks.specs.declared.disks.DiskFault.{DiskFault}
use Rattle.verity_disks.specs.declared.disks.DiskFault.TheVariants as disk
use Rattle.verity_pending.specs.declared.fault.EditFault.TheVariants as edit
use Rattle.verity_store.specs.declared.fault.StoreFault.TheVariants as store
use Rattle.verity_store.specs.declared.fault.Which.TheVariants as which
use Rattle.os_journal.specs.Journals.{AreOpened, IsOneOf}
use Rattle.os_journal.specs.Names.{IsJournalPath, IsWithoutJournal}

-- want of memory; the store whose file failed last; else the journal
abbrev pub laid_to : DiskFault → Option Device → Fault
laid_to disk.NoMemory failed = fault.Store store.NoMemory
laid_to disk.Device (Some device.Data) = fault.Edit (edit.Store which.Data)
laid_to disk.Device (Some device.Hash) = fault.Edit (edit.Store which.Hash)
laid_to _ failed = fault.Journal

-- a journal isn't opened: S3 or S7
abbrev pub IsNoJournalFault : Fault → Type 0
IsNoJournalFault (fault.Store store.NoMemory) = ⊤
IsNoJournalFault fault.Journal = ⊤
IsNoJournalFault _ = ⊥

-- the system refused, a file failed, or the journal can't be used
abbrev pub IsOfDisks : Type 0 → Fault → Type 0
IsOfDisks refuses (fault.Store fault) = IsOfSystem refuses fault
IsOfDisks refuses (fault.Edit (edit.Store which)) = ⊤
IsOfDisks refuses fault.Journal = ⊤
IsOfDisks refuses _ = ⊥

module _ {S F D J : Type 0} (facts : Ghosts S F D J) where
  -- one file was opened at both paths
  abbrev pub IsOneFile : S → (data_path hash_path : List ℕ) → Type 0
  IsOneFile old data_path hash_path = (image device : F) × (between new : S) × facts.opens_to_write old hash_path device between
      × facts.opens_to_write between data_path image new × (facts.identity image ≡ facts.identity device)

  -- both files were opened, and there is no journal, or what was opened at its path is one of them
  abbrev pub HasNoJournal : S → Option (Bor (List ℕ)) → (data_path hash_path : List ℕ) → Type 0
  HasNoJournal old journal data_path hash_path = (image device : F) × (new : S) × AreOpened facts old data_path hash_path image device new
      × (IsWithoutJournal journal (facts.identity device)
      ⊎ ((path : List ℕ) × IsJournalPath facts new journal hash_path path
      × IsOneOf facts new path (facts.identity image) (facts.identity device)))

  -- no argument is blamed but HASH and the journal, for these reasons
  abbrev pub BlamesVolume : S → Option (Bor (List ℕ)) → (data_path hash_path : List ℕ) → Failure → Type 0
  BlamesVolume old journal data_path hash_path (failure.Word word.Hash) = IsOneFile old data_path hash_path
  BlamesVolume old journal data_path hash_path (failure.Word word.Journal) = HasNoJournal old journal data_path hash_path
  BlamesVolume old journal data_path hash_path (failure.Word _) = ⊥
  BlamesVolume old journal data_path hash_path _ = ⊤
