-- The texts of the numbered faults, and what the program makes of them.
use Rattle.std.specs.Prelude.{ℕ, Bool, true, false, if◌then◌else◌, Option, Some, None, List, [], ◌∷◌, ◌++◌, codes}
use Rattle.nbd_session.specs.declared.fault.SessionFault.TheVariants as session
use Rattle.nbd_session.specs.Texts.{session_text}
use Rattle.verity_build.specs.declared.fault.BuildFault.TheVariants as build
use Rattle.verity_build.specs.Texts.{build_text}
use Rattle.verity_check.specs.declared.fault.CheckFault.TheVariants as check
use Rattle.verity_check.specs.Texts.{check_text}
use Rattle.verity_digest.specs.declared.salt.SaltFault.TheVariants as salt
use Rattle.verity_digest.specs.Texts.{salt_text}
use Rattle.verity_pending.specs.declared.fault.EditFault.TheVariants as edit
use Rattle.verity_edit.specs.Texts.{edit_text}
use Rattle.verity_geometry.specs.Texts.{geometry_text}
use Rattle.verity_store.specs.declared.fault.StoreFault.TheVariants as store
use Rattle.verity_store.specs.Texts as store_texts
use Rattle.verity_superblock.specs.declared.faults.SuperFault.TheVariants as super
use Rattle.verity_superblock.specs.declared.faults.TableFault.TheVariants as table
use Rattle.verity_superblock.specs.Texts.{super_text, table_text}
use Rattle.cli_faults.specs.declared.fault.Fault.{Fault}
use Rattle.cli_faults.specs.declared.fault.Fault.TheVariants.{Store, InUse, NewInUse, UnderWay, Journal}
use Rattle.cli_faults.specs.declared.fault.Fault.TheVariants.{Salt, Superblock, Table, Build, Uncovered, Check, Edit, Session, Socket}
use Rattle.cli_faults.specs.declared.failure.Failure.{Failure}
use Rattle.cli_faults.specs.declared.failure.Failure.TheVariants.{Word, Refused, NoMemory, Output}
use Rattle.cli_faults.specs.Words.{word_name}

-- the text is that of what it carries
abbrev pub fault_text : Fault → List ℕ
fault_text (Store fault) = store_texts.fault_text fault
fault_text (InUse which) = codes "S5 " ++ store_texts.which_text which
fault_text NewInUse = codes "S5 new"
fault_text UnderWay = codes "S6"
fault_text Journal = codes "S7"
fault_text (Salt fault) = salt_text fault
fault_text (Superblock fault) = super_text fault
fault_text (Table fault) = table_text fault
fault_text (Build fault) = build_text fault
fault_text Uncovered = codes "J1"
fault_text (Check fault) = check_text fault
fault_text (Edit fault) = edit_text fault
fault_text (Session fault) = session_text fault
fault_text Socket = codes "N6"

-- the text of the fault that it carries, where that has a number of its own
abbrev pub cause_text : Fault → Option (List ℕ)
cause_text (Build (build.Geometry fault)) = Some (geometry_text fault)
cause_text (Edit (edit.Superblock fault)) = Some (super_text fault)
cause_text _ = None

-- the faults that are want of memory
abbrev pub is_want : Fault → Bool
is_want (Store store.NoMemory) = true
is_want (Salt salt.NoMemory) = true
is_want (Superblock super.NoMemory) = true
is_want (Table table.NoMemory) = true
is_want (Build build.NoMemory) = true
is_want (Check check.NoMemory) = true
is_want (Edit edit.NoMemory) = true
is_want (Edit (edit.Superblock super.NoMemory)) = true
is_want (Session session.NoMemory) = true
is_want _ = false

-- want of memory is printed as such, every other fault by its text
abbrev pub failure_of : Fault → Failure
failure_of fault = if is_want fault then NoMemory else Refused fault

-- a text, and the end of its line
abbrev pub line : List ℕ → List ℕ
line text = text ++ 10 ∷ []

-- what is printed; nothing where the output can't be written
abbrev pub failure_line : Failure → List ℕ
failure_line (Word word) = codes "error: the value of " ++ (word_name word ++ line (codes " is not understood"))
failure_line (Refused fault) = codes "refused " ++ line (fault_text fault)
failure_line NoMemory = line (codes "no memory")
failure_line Output = []

-- the status that the process ends with: 2 for words that aren't understood, 3 for want of memory, 1 for all else
abbrev pub status_for : Failure → ℕ
status_for (Word word) = 2
status_for (Refused fault) = 1
status_for NoMemory = 3
status_for Output = 1
