-- What slices and joins begin with.
use Rattle.std.specs.Prelude.{◌≡◌, ℕ, ◌+◌, ◌^◌, ◌≤◌, length, None}
use Rattle.verity_build.specs.Parameters.{Parameters, salted_by, shape_over, volume}
use Rattle.verity_geometry.specs.Geometry.{Shape, total_of}
use Rattle.verity_superblock.specs.Image.{start_behind}
use Rattle.verity_superblock.specs.Superblock.{superblock}
use Rattle.verity_tree.specs.Climb.{AreEmpty}
use Rattle.verity_tree.specs.Opens.{opens}
use Rattle.verity_slices.specs.Level.{upper}
use Rattle.verity_slices.specs.declared.prepare.Slicing.{Slicing}
use Rattle.verity_slices.specs.declared.prepare.Joining.{Joining}

-- what a slice begins to write with, where the hash store has this room
pub record CanSlice {A : Type 0} (p : Parameters) (data_size hash_size blocks offset room : ℕ) (made : Slicing A) : Type 0 where
  pub start : made.start ≡ start_behind offset hash_size
  pub near : made.start ≤ 2 ^ 40
  pub geometry : made.tree.geometry ≡ shape_over p data_size hash_size blocks
  pub salted : made.tree.hasher.salted ≡ salted_by p
  pub data_buffer : made.tree.geometry.data_size ≤ length made.buffer.items
  pub block : length made.block.items ≡ made.tree.geometry.hash_size
  pub reserved : made.start + total_of made.tree.geometry ≤ room

-- what a join of a volume of this shape begins to write with
pub record CanJoin {A : Type 0} (p : Parameters) (s : Shape) (offset room : ℕ) (made : Joining A) : Type 0 where
  pub start : made.start ≡ start_behind offset s.hash_size
  pub behind : 1 ≤ made.start
  pub near : made.start ≤ 2 ^ 40
  pub geometry : made.tree.geometry ≡ upper s
  pub salted : made.tree.hasher.salted ≡ salted_by p
  pub empty : AreEmpty (opens made.tree)
  pub rootless : made.tree.root ≡ None
  pub superblock : made.superblock ≡ superblock (volume p s.data_size s.hash_size) s.blocks
  pub buffer : made.tree.geometry.data_size ≤ length made.buffer.items
  pub reserved : made.start + total_of made.tree.geometry + made.tree.geometry.blocks ≤ room
