-- A volume of an image shows the image's line.
use Rattle.std.specs.Prelude.{◌≡◌, ℕ, ◌==◌, if◌then◌else◌, List, [], length, slice_index_or}
use Rattle.verity_digest.specs.Hash.{hashing, salted_digest}
use Rattle.verity_digest.specs.Tree.{Hashing, root, tree}
use Rattle.verity_superblock.specs.Line.{TableLine, IsTableLine, salted_by}
use Rattle.verity_superblock.specs.Superblock.{Volume, salted}
use Rattle.verity_line_file.specs.Shown.{HasSizes, Shows, values_of}

-- how its tree is hashed
abbrev pub hashing_by : TableLine → Hashing
hashing_by t = hashing (salted_by t) t.hash_block_size

-- the line is that of the image
pub record IsOfImage (t : TableLine) (image : List (List ℕ)) : Type 0 where
  pub line : IsTableLine t
  pub blocks : length image ≡ t.data_blocks
  pub root : root (hashing_by t) image ≡ t.root

-- of an image of one block this, else the first block of its tree
abbrev pub top_of : TableLine → List (List ℕ) → List ℕ
top_of t image = if t.data_blocks == 1 then slice_index_or image 0 [] else slice_index_or (tree (hashing_by t) image) 0 []

-- a superblock with the line's values, and the image's own top block, show the line
abbrev pub ShowsItsLine : Type 0
ShowsItsLine = (t : TableLine) (image : List (List ℕ)) (volume : Volume) (start : ℕ) → IsOfImage t image
    → HasSizes (values_of volume start []) t
    → Shows (values_of volume start (salted_digest (salted volume.params) (top_of t image))) t
