-- What an edit and an update leave of a table line that is kept with the commits.
use Rattle.std.proofs.Common.{◌≡◌, ℕ, List, Option, Result, Ok, Err, IfOk, IfSome, refl, subst, sym}
use Rattle.std.specs.Io.KnownBytes.{Appends}
use Rattle.verity_superblock.specs.Superblock.{Volume}
use Rattle.verity_edit.specs.declared.command.Committed.{Committed}
use Rattle.cli_faults.specs.declared.fault.Fault.{Fault}
use Rattle.cli_volume.specs.Kept.{LeftLine, AsBefore, Holding, IsLeft}
use Rattle.cli_volume.specs.Lines.{volume_line}
use Rattle.cli_volume.specs.declared.lines.Devices.{Devices}
use Rattle.cli_edit.specs.Keeping.{AreKeptAnswers, left_after}
use Rattle.cli_edit.specs.Printed.{answers_of, update_lines}
use Rattle.cli_edit.specs.Printing.{LeavesEdited, LeavesUpdated}

-- the answers to a script, over the bytes that are read of it
pub edited_kept : {C E : Type 0} (holds : C → Volume → List ℕ → Type 0) (a b : C) (text : Option (List ℕ)) (read script : List ℕ)
    (on : Devices) (old new : Option (List ℕ)) (done : Result ℕ E) → IfSome text (λ bytes. read ≡ bytes) → script ≡ read
    → IfOk done (λ status. AreKeptAnswers holds a b on old new (answers_of script) status)
    → IfOk done (λ status. (left : LeftLine) × LeavesEdited text on old new status left × IsLeft holds a b left)
edited_kept holds a b text read script on old new (Ok status) known same kept =
    let P : List ℕ → Type 0 = λ (xs : List ℕ). IfSome text (λ bytes. xs ≡ bytes) in
    (left_after AsBefore kept.answered.answers, (script, subst P (sym same) known, (kept.answered, refl)), kept.kept)
edited_kept holds a b text read script on old new (Err e) known same kept = tt

-- an update's line is the one that was printed, of the volume as its superblock was shown
pub updated_kept : {C : Type 0} (holds : C → Volume → List ℕ → Type 0) (a b : C) (on : Devices) (old new : Option (List ℕ)) (changed : ℕ)
    (shown volume : Volume) (done : Result Committed Fault) (committed : Committed) → done ≡ Ok committed
    → IfOk done (λ it. holds b volume it.root) → shown ≡ volume
    → Appends old new (update_lines changed (volume_line on shown committed.root))
    → (left : LeftLine) × LeavesUpdated on old new 0 left × IsLeft holds a b left
updated_kept holds a b on old new changed shown volume done committed is held same printed =
    let P : Result Committed Fault → Type 0 = λ (r : Result Committed Fault). IfOk r (λ it. holds b volume it.root) in
    let Q : Volume → Type 0 = λ (v : Volume). holds b v committed.root in
    (Holding shown committed.root, (changed, shown, committed.root, refl, printed, refl), subst Q (sym same) (subst P is held))
