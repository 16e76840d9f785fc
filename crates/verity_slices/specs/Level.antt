-- Level 0 of a tree, and the tree above it.
use Rattle.std.specs.Prelude.{ℕ, ◌+◌, nat_lt, if◌then◌else◌, List, take, drop}
use Rattle.verity_geometry.specs.Geometry.{Shape, levels_of, len_of, total_of}
use Rattle.verity_store.specs.Blocks.{resized}

-- how many hash blocks level 0 has: none above one data block
abbrev pub leaves_of : Shape → ℕ
leaves_of s = if nat_lt 0 (levels_of s) then len_of s 0 else 0

-- the shape of the tree above level 0: of a volume whose data blocks are the blocks of level 0
abbrev pub upper : Shape → Shape
upper s = record { data_size = s.hash_size; hash_size = s.hash_size; digest_size = s.digest_size; blocks = len_of s 0 }

-- the blocks that stand behind the tree of an upper shape which begins at `start`, as many as it has data blocks: level 0 as it
-- stands, with zero blocks where the content is shorter
abbrev pub level_in : Shape → ℕ → List (List ℕ) → List (List ℕ)
level_in u start content = take u.blocks (drop (start + total_of u) (resized u.hash_size (start + total_of u + u.blocks) content))
