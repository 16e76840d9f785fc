-- The fields of a geometry.
use Rattle.verity_geometry.specs.Geometry.{Shape, IsShape}
use Rattle.verity_geometry.specs.declared.geometry.Geometry.TheInside.{Inside}

-- the shape of these fields
abbrev pub shape : Inside → Shape
shape g = record { data_size = g.data_size; hash_size = g.hash_size; digest_size = g.digest_size; blocks = g.blocks }

-- the fields of this shape
abbrev pub kept : Shape → Inside
kept s = record { data_size = s.data_size; hash_size = s.hash_size; digest_size = s.digest_size; blocks = s.blocks }

-- the shape is one of the profile
abbrev pub IsKept : Inside → Type 0
IsKept g = IsShape (shape g)
