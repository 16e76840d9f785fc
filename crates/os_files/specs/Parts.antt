-- What a store holds of what was opened.
use Rattle.std.specs.Prelude.{◌≡◌, ◌/◌, ◌<◌, ℕ, ⊤}
use Rattle.os_files.specs.declared.part.Part.{Part}
use Rattle.os_files.specs.declared.part.Part.TheVariants.{All, First, AtMost, New}

-- there are fewer blocks than are asked for
abbrev pub HasFewer : Part → (len size : ℕ) → Type 0
HasFewer All len size = ⊥
HasFewer (First blocks) len size = len / size < blocks
HasFewer (AtMost blocks) len size = ⊥
HasFewer New len size = ⊥

-- a store has as many blocks as were asked for, where so many were
abbrev pub HasAsked : Part → (count : ℕ) → Type 0
HasAsked All count = ⊤
HasAsked (First blocks) count = count ≡ blocks
HasAsked (AtMost blocks) count = ⊤
HasAsked New count = ⊤

-- where all bytes of a file are asked for, this is why they are no whole number of blocks
abbrev pub IsRaggedPart : Part → Type 0 → Type 0
IsRaggedPart All reason = reason
IsRaggedPart (First blocks) reason = ⊤
IsRaggedPart (AtMost blocks) reason = reason
IsRaggedPart New reason = ⊤
