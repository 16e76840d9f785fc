-- The answers to a script over a small volume, behind the volume's table line.
use Rattle.std.specs.Prelude.{ℕ, List, Option, Result, Ok, Err, IfOk}
use Rattle.std.specs.Io.KnownBytes.{Appends}
use Rattle.verity_superblock.specs.Line.{canonical}
use Rattle.verity_superblock.specs.Superblock.{Volume}
use Rattle.cli_faults.specs.Faults.{line}
use Rattle.cli_volume.specs.Lines.{volume_line}
use Rattle.cli_volume.specs.declared.lines.Devices.{Devices}
use Rattle.cli_edit.specs.Printing.{IsEdited, IsOfZeros, IsScratch}

-- a table line, and then the answers
pub behind_its_line : {E : Type 0} (text : Option (List ℕ)) (devices : Devices) (volume : Volume) (root : List ℕ)
    (old between new : Option (List ℕ)) → IsOfZeros volume root
    → Appends old between (line (canonical (volume_line devices volume root))) → (done : Result ℕ E)
    → IfOk done (λ status. IsEdited text devices between new status) → IfOk done (λ status. IsScratch text old new status)
behind_its_line text devices volume root old between new zeros printed (Ok status) answered =
    (devices, volume, root, between, zeros, printed, answered)
behind_its_line text devices volume root old between new zeros printed (Err e) answered = answered
