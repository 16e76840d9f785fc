-- The table line that `format` keeps in FILE, too.
use Rattle.std.specs.Prelude.{◌≡◌, ◌⊎◌, ℕ, true, List, [], Option, Some}
use Rattle.std.specs.Io.KnownBytes.{Appends}
use Rattle.os_line_file.specs.Folder.{IsDurable, LeavesOnly}
use Rattle.os_line_file.specs.declared.folder.LineFolder as folder
use Rattle.os_line_file.specs.declared.folder.LineFolders as folders
use Rattle.cli_line_file.specs.Apart.{IsApart, IsNotApart}
use Rattle.cli_line_file.specs.Files.{IsOfFolder, IsOpened}
use Rattle.cli_line_file.specs.Keeping.{IsKept, KeepsOld, KeepsOldOr}
use Rattle.cli_faults.specs.declared.failure.Failure.{Failure}
use Rattle.cli_faults.specs.declared.failure.Failure.TheVariants as failure
use Rattle.cli_faults.specs.declared.failure.Word.{Word}
use Rattle.os_files.specs.declared.system.System.{Ghosts}
use Rattle.cli_arguments.specs.declared.words.format.FormatWords.{FormatWords}

-- an argument isn't understood, or memory is wanting
abbrev pub IsOfArgument : Failure → Type 0
IsOfArgument e = ((w : Word) × (e ≡ failure.Word w)) ⊎ (e ≡ failure.NoMemory)

-- FILE and FILE.next are neither DATA nor HASH
abbrev pub IsClear : {S F D J : Type 0} → Ghosts S F D J → S → FormatWords → List ℕ → Type 0
IsClear facts s words path = IsApart facts s path words.data_path.now × IsApart facts s path words.hash_path.now

-- one of them is, or that can't be told
abbrev pub IsNotClear : {S F D J : Type 0} → Ghosts S F D J → S → FormatWords → List ℕ → Failure → Type 0
IsNotClear facts s words path e = IsNotApart facts s path words.data_path.now e ⊎ IsNotApart facts s path words.hash_path.now e

module _ {G : Type 0} (facts : folder.Ghosts G) where
  -- a crash at any moment leaves FILE as it was
  abbrev pub IsSpared : (old new : G) → Type 0
  IsSpared old new = LeavesOnly facts.moment facts.left_since old new (KeepsOld (facts.seen old) (facts.may_leave old))

  -- .. or with all of this text
  abbrev pub IsReplacedBy : List ℕ → (old new : G) → Type 0
  IsReplacedBy text old new = LeavesOnly facts.moment facts.left_since old new (KeepsOldOr text (facts.seen old) (facts.may_leave old))

  -- FILE is left with the line that was printed of what was made, which stays, and there is no FILE.next
  pub record Keeps (is_made : (before after : Option (List ℕ)) → Type 0) (before after : Option (List ℕ)) (old new : G) : Type 0 where
    pub text : List ℕ
    pub made : is_made (Some []) (Some text)
    pub printed : Appends before after text
    pub kept : IsKept text (facts.seen new)
    pub durable : IsDurable (facts.seen new) (facts.may_leave new)
    pub any_moment : IsReplacedBy text old new

  -- a crash at any moment leaves FILE as it was; or the device was made, and it leaves FILE with that device's line too
  abbrev pub IsLeftWith : (is_made : (before after : Option (List ℕ)) → Type 0) → (old new : G) → Type 0
  IsLeftWith is_made old new = IsSpared old new ⊎ ((text : List ℕ) × is_made (Some []) (Some text) × IsReplacedBy text old new)

module _ {L G : Type 0} (files : folders.Ghosts L G) (facts : folder.Ghosts G) (l new_l : L) (path : List ℕ) where
  -- FILE was opened at this path, and closed with the line
  abbrev pub IsKeptAt : (is_made : (before after : Option (List ℕ)) → Type 0) → (before after : Option (List ℕ)) → Type 0
  IsKeptAt is_made before after = (old new : G) × IsOpened files facts l new_l path old new × Keeps facts is_made before after old new

  -- FILE was opened at this path, and closed: a crash leaves it as it was, or with the line of what was made
  abbrev pub IsLeftAt : (is_made : (before after : Option (List ℕ)) → Type 0) → Type 0
  IsLeftAt is_made = (old new : G) × IsOpened files facts l new_l path old new × IsLeftWith facts is_made old new

  -- FILE isn't opened, and nothing was made: an argument isn't understood, FILE or FILE.next is one of the volume's files, or the folder
  -- isn't opened
  abbrev pub IsUnopened : {S F D J : Type 0} → Ghosts S F D J → (before after : S) → FormatWords → Failure → Type 0
  IsUnopened system before after words e = (new_l ≡ l) × ((after ≡ before)
      × (IsOfArgument e ⊎ (IsNotClear system before words path e ⊎ IsOfFolder (files.refuses l ≡ true) e)))
