-- What a build and a comparison begin with.
use Rattle.std.specs.Prelude.{◌≡◌, ℕ, ◌+◌, ◌^◌, ◌≤◌, length, None}
use Rattle.verity_geometry.specs.Geometry.{total_of}
use Rattle.verity_superblock.specs.Image.{start_behind}
use Rattle.verity_superblock.specs.Superblock.{superblock}
use Rattle.verity_tree.specs.Climb.{AreEmpty}
use Rattle.verity_tree.specs.Opens.{opens}
use Rattle.verity_build.specs.Parameters.{Parameters, salted_by, shape_over, volume}
use Rattle.verity_tree.specs.declared.open_tree.OpenTree.{OpenTree}
use Rattle.verity_build.specs.declared.prepare.Building.{Building}
use Rattle.verity_build.specs.declared.prepare.Comparing.{Comparing}

-- where the tree of a volume over stores of these sizes begins, and its open blocks, before the first data block
pub record Begins {A : Type 0} (p : Parameters) (data_size hash_size blocks offset first : ℕ) (tree : OpenTree A) : Type 0 where
  pub start : first ≡ start_behind offset hash_size
  pub near : first ≤ 2 ^ 40
  pub geometry : tree.geometry ≡ shape_over p data_size hash_size blocks
  pub salted : tree.hasher.salted ≡ salted_by p
  pub empty : AreEmpty (opens tree)
  pub rootless : tree.root ≡ None

-- what a build begins to write with, where the hash store has this room
pub record CanWrite {A : Type 0} (p : Parameters) (data_size hash_size blocks offset room : ℕ) (made : Building A) : Type 0 where
  pub begun : Begins p data_size hash_size blocks offset made.start made.tree
  pub superblock : made.superblock ≡ superblock (volume p data_size hash_size) blocks
  pub data_buffer : made.tree.geometry.data_size ≤ length made.buffer.items
  pub hash_buffer : made.tree.geometry.hash_size ≤ length made.buffer.items
  pub reserved : made.start + total_of made.tree.geometry ≤ room

-- what a comparison begins to read with
pub record CanRead {A : Type 0} (p : Parameters) (data_size hash_size blocks offset : ℕ) (made : Comparing A) : Type 0 where
  pub begun : Begins p data_size hash_size blocks offset made.start made.tree
  pub data_buffer : made.tree.geometry.data_size ≤ length made.buffer.items
  pub hash_buffer : length made.hash_block.items ≡ made.tree.geometry.hash_size
