-- What is left of FILE and FILE.next where a line is kept.
use Rattle.std.specs.Prelude.{◌≡◌, ◌⊎◌, ℕ, List, Some, None}
use Rattle.os_line_file.specs.Folder.{Texts, KeepsLine}
use Rattle.verity_superblock.specs.Line.{TableLine}
use Rattle.verity_line_file.specs.Lines.{HoldsWhole}

-- FILE has this text, and there is no FILE.next
abbrev pub only_line : List ℕ → Texts
only_line text = record { line = Some text; next = None }

-- a crash leaves FILE as it was seen, or as one might have left it before
abbrev pub KeepsOld : Texts → (Texts → Type 0) → Texts → Type 0
KeepsOld seen may_leave c = (c.line ≡ seen.line) ⊎ KeepsLine may_leave c

-- the same, or with all of this text
abbrev pub KeepsOldOr : List ℕ → Texts → (Texts → Type 0) → Texts → Type 0
KeepsOldOr text seen may_leave c = (c.line ≡ Some text) ⊎ KeepsOld seen may_leave c

-- FILE has this text, which holds a table line and ends with a line feed; there is no FILE.next
abbrev pub IsKept : List ℕ → Texts → Type 0
IsKept printed new = (new ≡ only_line printed) × ((t : TableLine) × HoldsWhole printed t)
