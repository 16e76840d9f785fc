-- What the commands that change a volume print, and their statuses.
use Rattle.std.specs.Prelude.{◌≡◌, ℕ, List, [], ◌∷◌, Option, IfSome}
use Rattle.std.specs.Io.KnownBytes.{Appends}
use Rattle.verity_profile.specs.Profile.{zero_block}
use Rattle.verity_digest.specs.Tree.{root}
use Rattle.verity_superblock.specs.Line.{canonical}
use Rattle.verity_superblock.specs.Superblock.{Volume}
use Rattle.verity_edit.specs.Opening.{FitsVolume}
use Rattle.verity_edit.specs.Planning.{volume_hashing}
use Rattle.cli_faults.specs.Faults.{line}
use Rattle.cli_volume.specs.Lines.{volume_line}
use Rattle.cli_volume.specs.declared.lines.Devices.{Devices}
use Rattle.cli_volume.specs.Kept.{LeftLine, AsBefore, Holding}
use Rattle.cli_edit.specs.Keeping.{left_after}
use Rattle.cli_edit.specs.Printed.{AreAnswers, answers_of, update_lines}

-- the answers to a script over a volume on these devices: of these bytes, where they are known
abbrev pub IsEdited : Option (List ℕ) → Devices → Option (List ℕ) → Option (List ℕ) → ℕ → Type 0
IsEdited text devices old new status = (script : List ℕ) × IfSome text (λ bytes. script ≡ bytes)
    × AreAnswers devices old new (answers_of script) status

-- these answers, and what they leave of a table line that is kept with the commits: that of the last `committed `, if no line was refused
-- after that
abbrev pub LeavesEdited : Option (List ℕ) → Devices → Option (List ℕ) → Option (List ℕ) → ℕ → LeftLine → Type 0
LeavesEdited text devices old new status left = (script : List ℕ) × IfSome text (λ bytes. script ≡ bytes)
    × ((answered : AreAnswers devices old new (answers_of script) status) × (left ≡ left_after AsBefore answered.answers))

-- a count of blocks, and the table line of a volume on these devices
abbrev pub IsUpdated : Devices → Option (List ℕ) → Option (List ℕ) → ℕ → Type 0
IsUpdated devices old new status = (changed : ℕ) × (volume : Volume) × (root : List ℕ)
    × (status ≡ 0) × Appends old new (update_lines changed (volume_line devices volume root))

-- these, and the table line that is kept is that one
abbrev pub LeavesUpdated : Devices → Option (List ℕ) → Option (List ℕ) → ℕ → LeftLine → Type 0
LeavesUpdated devices old new status left = (changed : ℕ) × (volume : Volume) × (root : List ℕ)
    × (status ≡ 0) × Appends old new (update_lines changed (volume_line devices volume root)) × (left ≡ Holding volume root)

-- the volume of one block of zeros: its sizes, its count, and the root that its own algorithm and salt give of that block
pub record IsOfZeros (volume : Volume) (root_hash : List ℕ) : Type 0 where
  pub fits : FitsVolume volume 1024 512 1
  pub root : root_hash ≡ root (volume_hashing volume.params) (zero_block 1024 ∷ [])

-- the table line of the volume of one block of zeros, and then the answers to a script over it
abbrev pub IsScratch : Option (List ℕ) → Option (List ℕ) → Option (List ℕ) → ℕ → Type 0
IsScratch text old new status = (devices : Devices) × (volume : Volume) × (root : List ℕ) × (between : Option (List ℕ))
    × IsOfZeros volume root × Appends old between (line (canonical (volume_line devices volume root)))
    × IsEdited text devices between new status
