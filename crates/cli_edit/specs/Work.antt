-- What is printed where a work is done over a volume, and which words it blames.
use Rattle.std.specs.Prelude.{◌≡◌, ◌⊎◌, ℕ, List, Option, IfSome, MatchOption, ⊤}
use Rattle.std.specs.Borrow.{Bor}
use Rattle.cli_faults.specs.declared.failure.Failure.{Failure}
use Rattle.cli_faults.specs.declared.failure.Failure.TheVariants as failure
use Rattle.cli_faults.specs.declared.failure.Word.{Word}
use Rattle.cli_faults.specs.declared.failure.Word.TheVariants as word
use Rattle.os_files.specs.declared.identity.Identity.{Identity}
use Rattle.os_host.specs.declared.opening.Opened.{Opened}
use Rattle.os_host.specs.declared.paths.Paths.{Ghosts}
use Rattle.cli_edit.specs.Journals.{IsInVolume}
use Rattle.cli_volume.specs.Opening.{IsOneFile}
use Rattle.cli_volume.specs.declared.lines.Devices.{Devices}
use Rattle.cli_volume.specs.Kept.{LeftLine}
use Rattle.cli_edit.specs.LineFiles.{IsTakenForLine}
use Rattle.cli_edit.specs.declared.work.Words.{Words}

-- what a work prints, by the bytes that are read at a path, over a volume on these devices, and its status
abbrev pub Prints : Type 0 → Type 1
Prints T = T → (List ℕ → Option (List ℕ)) → Devices → Option (List ℕ) → Option (List ℕ) → ℕ → Type 0

-- what the work prints as it is by now is what it was to print
abbrev pub PrintsAsBefore : {T : Type 0} → Prints T → (old new : T) → Type 0
PrintsAsBefore prints old new = (text : List ℕ → Option (List ℕ)) (devices : Devices) (before after : Option (List ℕ)) (status : ℕ)
    → prints new text devices before after status → prints old text devices before after status

-- what a work prints, likewise, its status, and what its commits leave of a table line that is kept with them
abbrev pub Leaves : Type 0 → Type 1
Leaves T = T → (List ℕ → Option (List ℕ)) → Devices → Option (List ℕ) → Option (List ℕ) → ℕ → LeftLine → Type 0

-- what the work leaves as it is by now is what it was to leave
abbrev pub LeavesAsBefore : {T : Type 0} → Leaves T → (old new : T) → Type 0
LeavesAsBefore leaves old new = (text : List ℕ → Option (List ℕ)) (devices : Devices) (before after : Option (List ℕ)) (status : ℕ)
    (left : LeftLine) → leaves new text devices before after status left → leaves old text devices before after status left

-- this over the devices at these paths
abbrev pub IsDoneAt : (Devices → Option (List ℕ) → Option (List ℕ) → ℕ → Type 0) → (data_path hash_path : List ℕ)
    → Option (List ℕ) → Option (List ℕ) → ℕ → Type 0
IsDoneAt prints data_path hash_path old new status = (devices : Devices)
    × (devices.data_path.now ≡ data_path) × (devices.hash_path.now ≡ hash_path) × prints devices old new status

-- why a work blames a word of its own: by what was opened at a path, and which files are taken
abbrev pub Reason : Type 0 → Type 1
Reason T = T → (List ℕ → Opened → Type 0) → (Identity → Type 0) → Type 0

-- the file of the hash device or, where that was opened, of the image
abbrev pub IsEither : Option Opened → Opened → Identity → Type 0
IsEither image device identity = (identity ≡ device.identity) ⊎ MatchOption image ⊥ (λ opened. identity ≡ opened.identity)

-- this reason, where what was opened at these paths is taken; at the image's there may be nothing
abbrev pub IsReasonAt : ((Identity → Type 0) → Type 0) → (List ℕ → Opened → Type 0) → (data_path hash_path : List ℕ) → Type 0
IsReasonAt reason opens data_path hash_path = (image : Option Opened) × (device : Opened)
    × IfSome image (opens data_path) × opens hash_path device × reason (IsEither image device)

-- no word is blamed but, for this reason, these
abbrev pub BlamesOwn : (Word → Type 0) → Type 0 → Failure → Type 0
BlamesOwn own reason (failure.Word other) = own other × reason
BlamesOwn own reason _ = ⊤

-- what was opened at the journal's path is what was opened at one of the volume's
abbrev pub IsTakenForJournal : {P : Type 0} → Ghosts P → P → Option (Bor (List ℕ)) → (data_path hash_path : List ℕ) → Type 0
IsTakenForJournal facts p journal data_path hash_path = (image device : Opened) × facts.opens p data_path image
    × facts.opens p hash_path device × IsInVolume facts p journal hash_path image.identity device.identity

-- no word is blamed but HASH, as one file was opened at both paths, the journal, as one of the two was opened at its own, FILE, as it or
-- FILE.next is one of the three, and these
abbrev pub BlamesOver : {P : Type 0} → Ghosts P → P → Words → (Word → Type 0) → Type 0 → Failure → Type 0
BlamesOver facts p words own reason (failure.Word other) = (own other × reason)
    ⊎ (((other ≡ word.Hash) × IsOneFile facts p words.data_path.now words.hash_path.now)
    ⊎ (((other ≡ word.Journal) × IsTakenForJournal facts p words.journal words.data_path.now words.hash_path.now)
    ⊎ ((other ≡ word.TableFile) × IsTakenForLine facts p words.table_file words.journal words.data_path.now words.hash_path.now)))
BlamesOver facts p words own reason _ = ⊤
