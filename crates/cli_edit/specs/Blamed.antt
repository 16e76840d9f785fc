-- Which words the commands that change a volume blame, and when.
use Rattle.std.specs.Prelude.{◌≡◌, ◌≢◌, ◌<◌, ◌⊎◌, ℕ, List, true, Option, Some, None, MatchOption, ⊤}
use Rattle.std.specs.Borrow.{Bor}
use Rattle.cli_faults.specs.Misread.{IsMisread}
use Rattle.cli_faults.specs.Words.{paths_refusal}
use Rattle.cli_faults.specs.declared.failure.Failure.{Failure}
use Rattle.cli_faults.specs.declared.failure.Failure.TheVariants as failure
use Rattle.cli_faults.specs.declared.failure.Word.TheVariants as word
use Rattle.os_files.specs.declared.identity.Identity.{Identity}
use Rattle.os_host.specs.declared.paths.Paths.{Ghosts}
use Rattle.os_files.specs.declared.system.System as system
use Rattle.verity_store.specs.declared.store.BlockStore as store
use Rattle.cli_volume.specs.Opening.{MisnamesHash}
use Rattle.cli_edit.specs.LineFiles.{IsTakenForLine}
use Rattle.cli_edit.specs.Work.{IsReasonAt, IsTakenForJournal}
use Rattle.cli_arguments.specs.declared.words.edit.EditWords.{EditWords}
use Rattle.cli_arguments.specs.declared.words.update.UpdateWords.{UpdateWords}

-- a table line is named both as it is and by its file
abbrev pub NamesTwoLines : Option (Bor (List ℕ)) → Option (Bor (List ℕ)) → Type 0
NamesTwoLines table table_file = (table ≢ None) × (table_file ≢ None)

-- `edit`, over a system of paths
abbrev pub EditBlames : {P : Type 0} → Ghosts P → P → EditWords → Failure → Type 0
EditBlames facts p words (failure.Word word.Data) = paths_refusal words.data_path.now words.hash_path.now ≡ Some (failure.Word word.Data)
EditBlames facts p words (failure.Word word.Hash) = MisnamesHash facts p words.data_path.now words.hash_path.now
EditBlames facts p words (failure.Word word.Journal) = IsTakenForJournal facts p words.journal words.data_path.now words.hash_path.now
EditBlames facts p words (failure.Word word.TableFile) = NamesTwoLines words.table words.table_file
    ⊎ IsTakenForLine facts p words.table_file words.journal words.data_path.now words.hash_path.now
EditBlames facts p words (failure.Word word.HashOffset) = MatchOption words.hash_offset ⊥
    (λ text. words.table ≡ None → IsMisread word.HashOffset text.now)
EditBlames facts p words (failure.Word _) = ⊥
EditBlames facts p words _ = ⊤

-- what a system opened at a path is a file that is taken
abbrev pub IsTaken : {S F D J : Type 0} → system.Ghosts S F D J → S → List ℕ → (Identity → Type 0) → Type 0
IsTaken facts s path is_taken = (opened : _) × facts.opens s path opened × is_taken (facts.identity opened)

-- the system of NEW refused a call, or a store of that system failed one
abbrev pub NewFails : {S F D J : Type 0} → system.Ghosts S F D J → store.Ghosts D → S → Type 0
NewFails facts stores s = (facts.refuses s ≡ true) ⊎ ((after : _) × (0 < stores.failures after))

-- `update`, likewise, where NEW is opened by a system of its own
abbrev pub UpdateBlames : {P S F D J : Type 0} → Ghosts P → P → system.Ghosts S F D J → S → UpdateWords → Failure → Type 0
UpdateBlames facts p news s words (failure.Word word.Data) =
    paths_refusal words.data_path.now words.hash_path.now ≡ Some (failure.Word word.Data)
UpdateBlames facts p news s words (failure.Word word.Hash) = MisnamesHash facts p words.data_path.now words.hash_path.now
UpdateBlames facts p news s words (failure.Word word.New) = IsReasonAt (IsTaken news s words.new_path.now) (facts.opens p)
    words.data_path.now words.hash_path.now
UpdateBlames facts p news s words (failure.Word word.Journal) =
    IsTakenForJournal facts p words.journal words.data_path.now words.hash_path.now
UpdateBlames facts p news s words (failure.Word word.TableFile) = NamesTwoLines words.table words.table_file
    ⊎ IsTakenForLine facts p words.table_file words.journal words.data_path.now words.hash_path.now
UpdateBlames facts p news s words (failure.Word word.HashOffset) = MatchOption words.hash_offset ⊥
    (λ text. words.table ≡ None → IsMisread word.HashOffset text.now)
UpdateBlames facts p news s words (failure.Word _) = ⊥
UpdateBlames facts p news s words _ = ⊤
