-- The fields of a slice.
use Rattle.verity_slice.specs.Slices.{Sliced, IsSlice}
use Rattle.verity_slice.specs.declared.slice.Slice.TheInside.{Inside}

-- the slice of these fields
abbrev pub sliced : Inside → Sliced
sliced s = record { index = s.index; count = s.count }

-- the fields of this slice
abbrev pub kept : Sliced → Inside
kept s = record { index = s.index; count = s.count }

-- there is such a slice
abbrev pub IsKept : Inside → Type 0
IsKept s = IsSlice s.index s.count
