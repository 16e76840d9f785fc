-- Whether a hash device has room for a tree.
use Rattle.std.specs.Prelude.{ℕ, ◌-◌, ◌<◌}
use Rattle.verity_geometry.specs.Geometry.{total_of}
use Rattle.verity_edit.specs.Planning.{volume_shape}
use Rattle.verity_superblock.specs.Superblock.{Volume}
use Rattle.cli_volume.specs.declared.lines.Devices.{Devices}

-- the tree of so many data blocks of a volume has more hash blocks than there are from its first one on
abbrev pub LacksRoom : Devices → Volume → ℕ → Type 0
LacksRoom devices volume count = devices.hash_room - devices.hash_start_block < total_of (volume_shape volume.params count)
