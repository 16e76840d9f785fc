-- Files in memory that are a volume.
use Rattle.std.specs.Prelude.{◌≡◌, ℕ, Option, Some, List}
use Rattle.std.specs.List.{concat}
use Rattle.verity_superblock.specs.Line.{TableLine}
use Rattle.verity_chain.specs.Right.{Fits}
use Rattle.cli_format.specs.Made.{device_of}

-- The one file has these bytes still, cut into blocks that a table line fits; and the other, in which some blocks stood, is the hash
-- device that is made of them.
abbrev pub AreVolume : (bytes image : List ℕ) (device : Option (List ℕ)) → Type 0
AreVolume bytes image device = (table : TableLine) × (blocks there : List (List ℕ)) × (image ≡ bytes) × (concat blocks ≡ bytes)
    × Fits table blocks × ((shape : _) × (device ≡ Some (concat (device_of shape table.salt blocks there))))
