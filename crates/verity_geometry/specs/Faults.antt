-- When there is a geometry, and what is answered where there is none.
use Rattle.std.specs.Prelude.{ℕ, ◌&&◌, not, Result, Ok, Err, if◌then◌else◌}
use Rattle.verity_profile.specs.Profile.{is_block_size, is_block_count}
use Rattle.verity_geometry.specs.Geometry.{Shape, is_digest_size}
use Rattle.verity_geometry.specs.declared.fault.GeometryFault.{GeometryFault}
use Rattle.verity_geometry.specs.declared.fault.GeometryFault.TheVariants.{BadSize, BadCount, DigestSize}

-- the shape of these sizes and this count
abbrev pub shape_of : ℕ → ℕ → ℕ → ℕ → Shape
shape_of data_size hash_size blocks digest_size =
    record { data_size = data_size; hash_size = hash_size; digest_size = digest_size; blocks = blocks }

-- the first fault that applies, of the block sizes, the count and the digest's size, and else the shape
abbrev pub shape_or_fault : ℕ → ℕ → ℕ → ℕ → Result Shape GeometryFault
shape_or_fault data_size hash_size blocks digest_size =
    if not (is_block_size data_size && is_block_size hash_size) then Err BadSize
    else (if not (is_block_count blocks) then Err BadCount
    else (if not (is_digest_size digest_size) then Err DigestSize
    else Ok (shape_of data_size hash_size blocks digest_size)))
