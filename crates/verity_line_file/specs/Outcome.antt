-- Which line is left where both files are settled, and why none is.
use Rattle.std.specs.Prelude.{◌≡◌, ℕ, List, Some, None, ⊤}
use Rattle.os_line_file.specs.Folder.{Texts, with_next, replaced}
use Rattle.verity_superblock.specs.Line.{TableLine}
use Rattle.verity_line_file.specs.Lines.{Holds}
use Rattle.verity_line_file.specs.Shown.{Values, HasSizes, Shows}
use Rattle.verity_line_file.specs.Standing.{HasNext, FitsLine, Stands}
use Rattle.verity_line_file.specs.declared.fault.LineFileFault.{LineFileFault}
use Rattle.verity_line_file.specs.declared.fault.LineFileFault.TheVariants as fault
use Rattle.verity_line_file.specs.declared.line_file.Settled.{Settled}
use Rattle.verity_line_file.specs.declared.line_file.Settled.TheVariants.{Nothing, Kept, Taken}

-- FILE.next takes FILE's place exactly where it holds the line of a volume that shows this; else it goes, and FILE, where it is there, is
-- the one that holds it
abbrev pub IsSettled : Values → (old new : Texts) → Settled → Type 0
IsSettled v old new Nothing = (old.next ≡ None) × (new ≡ old)
IsSettled v old new Taken = HasNext v old × (new ≡ replaced old)
IsSettled v old new Kept = (¬ HasNext v old) × FitsLine v old × (new ≡ with_next None old)

-- a text is another volume's line, or none
abbrev pub IsOther : Values → List ℕ → LineFileFault → Type 0
IsOther v text fault.Values = (t : TableLine) × Holds text t × ¬ HasSizes v t
IsOther v text fault.Top = (t : TableLine) × Holds text t × HasSizes v t × ¬ Shows v t
IsOther v text (fault.Line why) = (t : TableLine) → ¬ Holds text t
IsOther v text _ = ⊥

-- FILE is there and holds another line, or none, and FILE.next doesn't hold the volume's either; or memory or the folder is to blame
abbrev pub IsRefused : Values → Texts → LineFileFault → Type 0
IsRefused v old fault.NoMemory = ⊤
IsRefused v old fault.Folder = Stands v old
IsRefused v old e = (¬ HasNext v old) × ((text : List ℕ) × (old.line ≡ Some text) × IsOther v text e)

-- neither memory nor the folder is to blame
abbrev pub IsMeant : LineFileFault → Type 0
IsMeant fault.NoMemory = ⊥
IsMeant fault.Folder = ⊥
IsMeant _ = ⊤
