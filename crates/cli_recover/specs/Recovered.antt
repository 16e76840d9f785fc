-- What `recover` leaves and prints, and which arguments it blames.
use Rattle.std.specs.Prelude.{◌≡◌, ◌⊎◌, ℕ, Bool, true, false, List, Option, Some, MatchOption, codes}
use Rattle.std.specs.Borrow.{Bor}
use Rattle.std.specs.Io.KnownBytes.{Appends}
use Rattle.cli_line_file.specs.Apart.{IsApart, IsNotApart}
use Rattle.cli_line_file.specs.Files.{FolderFails}
use Rattle.cli_line_file.specs.Settling.{IsLeftAt, IsSettledAt}
use Rattle.os_line_file.specs.declared.folder.LineFolder as folder
use Rattle.os_line_file.specs.declared.folder.LineFolders as folders
use Rattle.cli_faults.specs.Faults.{line}
use Rattle.os_files.specs.Reached.{BesideAt}
use Rattle.cli_faults.specs.Words.{paths_refusal}
use Rattle.cli_faults.specs.declared.failure.Failure.{Failure}
use Rattle.cli_faults.specs.declared.failure.Failure.TheVariants as failure
use Rattle.os_files.specs.declared.system.System.{Ghosts}
use Rattle.verity_disks.specs.declared.disks.Disks as disks
use Rattle.verity_store.specs.declared.store.BlockStore as store
use Rattle.cli_arguments.specs.declared.words.recover.RecoverWords.{RecoverWords}
use Rattle.os_journal.specs.Blamed.{BlamesVolume}
use Rattle.os_journal.specs.Journals.{IsMadeWhole}

-- the line that says whether there were changes to make
abbrev pub recovered_line : Bool → List ℕ
recovered_line true = line (codes "recovered")
recovered_line false = line (codes "nothing to recover")

-- The volume at both paths was made whole: from the system before to the one after leads a chain of openings, the closing and the removal
-- of its journal, and nothing else. Whether there were changes to make is printed.
pub record IsRecovered {S F D J : Type 0} (facts : Ghosts S F D J) (devices : disks.Ghosts J) (old new : S) (words : RecoverWords)
    (before after : Option (List ℕ)) : Type 0 where
  pub is_recovered : Bool
  pub whole : IsMadeWhole facts devices old new words.journal words.data_path.now words.hash_path.now is_recovered
  pub printed : Appends before after (recovered_line is_recovered)

-- the path of the volume's journal: the one that is named, or the one beside HASH
abbrev pub IsJournalOf : {S F D J : Type 0} → Ghosts S F D J → S → RecoverWords → List ℕ → Type 0
IsJournalOf facts s words path = MatchOption words.journal (BesideAt facts s words.hash_path.now path) (λ named. path ≡ named.now)

-- FILE and FILE.next are neither DATA nor HASH nor the journal
pub record IsClearOf {S F D J : Type 0} (facts : Ghosts S F D J) (s : S) (words : RecoverWords) (path : List ℕ) : Type 0 where
  pub of_data : IsApart facts s path words.data_path.now
  pub of_hash : IsApart facts s path words.hash_path.now
  pub journal : List ℕ
  pub stands : IsJournalOf facts s words journal
  pub of_journal : IsApart facts s path journal

-- one of both is one of these, where FILE is blamed
abbrev pub IsNotClearOf : {S F D J : Type 0} → Ghosts S F D J → S → RecoverWords → List ℕ → Failure → Type 0
IsNotClearOf facts s words path e = (e ≡ failure.NoMemory) ⊎ ((other : List ℕ) × IsNotApart facts s path other e
    × ((other ≡ words.data_path.now) ⊎ ((other ≡ words.hash_path.now) ⊎ IsJournalOf facts s words other)))

-- the system refuses a call once the volume was recovered, a folder of FILE's isn't opened, or one that was failed later; where there is no
-- FILE, nothing more is asked
abbrev pub FileFails : {S F D J L G : Type 0} → Ghosts S F D J → S → folders.Ghosts L G → folder.Ghosts G → L → Option (Bor (List ℕ))
    → Type 0
FileFails facts s files folder l table_file = MatchOption table_file ⊥ (λ _. (facts.refuses s ≡ true) ⊎ FolderFails files folder l)

module _ {S F D J L G : Type 0} (facts : Ghosts S F D J) (stores : store.Ghosts D) (files : folders.Ghosts L G) (folder : folder.Ghosts G)
  where
    -- FILE was settled over the volume at both paths, by openings and closings of its folder alone; where none is named, none was opened
    abbrev pub IsFileSettled : S → (l new_l : L) → RecoverWords → Type 0
    IsFileSettled s l new_l words = MatchOption words.table_file (new_l ≡ l)
        (λ path. IsSettledAt facts stores files folder s l new_l words.data_path.now words.hash_path.now path.now)

    -- FILE wasn't settled, and is left as settling it leaves it then; it is named
    abbrev pub IsFileUnsettled : S → (l new_l : L) → RecoverWords → Failure → Type 0
    IsFileUnsettled s l new_l words e = MatchOption words.table_file ⊥
        (λ path. IsLeftAt facts stores files folder s l new_l words.data_path.now words.hash_path.now path.now e)

    -- where `recover` fails, no folder was opened; or the volume was made whole first, and then FILE was settled, or wasn't for this reason
    abbrev pub IsFileLeft : disks.Ghosts J → (s new_s : S) → (l new_l : L) → RecoverWords → Failure → Type 0
    IsFileLeft devices s new_s l new_l words e = (new_l ≡ l)
        ⊎ (((is_recovered : Bool)
        × IsMadeWhole facts devices s new_s words.journal words.data_path.now words.hash_path.now is_recovered)
        × (IsFileSettled new_s l new_l words ⊎ IsFileUnsettled new_s l new_l words e))

-- no argument is blamed but DATA and HASH, whose paths don't fit beside one another, HASH where it is DATA, the journal, and FILE, where it
-- or FILE.next is one of these
abbrev pub RecoverBlames : {S F D J : Type 0} → Ghosts S F D J → S → RecoverWords → Failure → Type 0
RecoverBlames facts old words e = (paths_refusal words.data_path.now words.hash_path.now ≡ Some e)
    ⊎ (BlamesVolume facts old words.journal words.data_path.now words.hash_path.now e
    ⊎ MatchOption words.table_file ⊥ (λ path. IsNotClearOf facts old words path.now e))
