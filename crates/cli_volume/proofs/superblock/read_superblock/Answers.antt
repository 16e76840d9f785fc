use Rattle.std.proofs.Common.{refl}
use Rattle.std.specs.Int.Count.{ones}
use Rattle.cli_volume.proofs.superblock.read_superblock.Goals as goal

-- 512 is a power of two
pub len_of_most-requires : goal.len_of_most-requires
unfolding ones
len_of_most-requires g c = refl
