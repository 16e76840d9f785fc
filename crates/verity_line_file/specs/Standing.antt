-- Of which volume two files hold the line.
use Rattle.std.specs.Prelude.{◌≡◌, ◌⊎◌, ℕ, List, Some, None}
use Rattle.os_line_file.specs.Folder.{Texts, MayReplace, MayRemove}
use Rattle.verity_superblock.specs.Line.{TableLine}
use Rattle.verity_line_file.specs.Lines.{Holds, HoldsWhole}
use Rattle.verity_line_file.specs.Shown.{Values, Shows}

-- the text holds the volume's line
abbrev pub IsLineOf : Values → List ℕ → Type 0
IsLineOf v text = (t : TableLine) × Holds text t × Shows v t

-- and nothing of it is missing
abbrev pub IsWholeLineOf : Values → List ℕ → Type 0
IsWholeLineOf v text = (t : TableLine) × HoldsWhole text t × Shows v t

-- FILE holds the volume's line
abbrev pub HasLine : Values → Texts → Type 0
HasLine v texts = (text : List ℕ) × (texts.line ≡ Some text) × IsLineOf v text

-- FILE.next holds the volume's line, whole
abbrev pub HasNext : Values → Texts → Type 0
HasNext v texts = (text : List ℕ) × (texts.next ≡ Some text) × IsWholeLineOf v text

-- FILE holds the volume's line, or there is no FILE
abbrev pub FitsLine : Values → Texts → Type 0
FitsLine v texts = (texts.line ≡ None) ⊎ HasLine v texts

-- one of both holds the volume's line, or there is no FILE
abbrev pub Stands : Values → Texts → Type 0
Stands v texts = HasNext v texts ⊎ FitsLine v texts

-- what a crash may leave while FILE.next takes FILE's place: what it might have left before, or a part of that
abbrev pub Replaces : Texts → (Texts → Type 0) → Texts → Type 0
Replaces seen may_leave c = may_leave c ⊎ MayReplace seen c

-- What a crash may leave while both files are settled: what it might have left before; or FILE.next takes FILE's place, which it does only
-- where it holds the volume's line; or it is removed, which it is only where it doesn't, and FILE does, where it is there.
abbrev pub Settles : Values → Texts → (Texts → Type 0) → Texts → Type 0
Settles v seen may_leave c = may_leave c
    ⊎ ((HasNext v seen × MayReplace seen c) ⊎ ((¬ HasNext v seen) × FitsLine v seen × MayRemove seen c))
