-- One open block is closed, in the tree of an image of this volume.
use Rattle.std.proofs.Common.{◌≡◌, ℕ, suc, ◌/◌, ◌<◌, ◌≤◌, List, [], length, get_or, sym, ap, ◌∙◌, subst, arith}
use Rattle.std.specs.Prelude.{Option}
use Rattle.verity_digest.specs.Hash.{Salted, size_of, hashing, salted_digest}
use Rattle.verity_digest.specs.Tree.{Hashing, per_block, hash_block, tree}
use Rattle.verity_digest.specs.Rows.{block_at}
use Rattle.verity_digest.specs.Shape.{row_len, level_count}
use Rattle.verity_digest.proofs.Counts.{row_len_top}
use Rattle.verity_digest.proofs.Rows.{level_block-row}
use Rattle.verity_geometry.specs.Geometry.{Shape, IsShape, digests_per_block, levels_of, len_of, place_of}
use Rattle.verity_geometry.proofs.OfShape.{IsOfShape-hashing, tree-shape_place}
use Rattle.verity_geometry.proofs.Shapes.{wide, some}
use Rattle.verity_tree.specs.Open.{Open}
use Rattle.verity_tree.specs.Climb.{open_at, Comes, Closes}
use Rattle.verity_build.specs.Progress.{Growing, Settling, IsRight}
use Rattle.verity_build.specs.Device.{AreStored}
use Rattle.verity_build.proofs.Settles.{index_below, same_index}
use Rattle.verity_build.proofs.Rightly.{closed_block, right_come, right_close}

-- a tree has one block at its top, seen by the numbers of its shape
pub top_of_shape : (s : Shape) (salted : Salted) (image : List (List ℕ)) (m : ℕ) → IsShape s →
    size_of salted.algorithm ≡ s.digest_size → length image ≡ s.blocks → m ≡ levels_of s
    → row_len (per_block (hashing salted s.hash_size)) (length image) m ≡ 1
top_of_shape s salted image m shaped sized count levels =
    let h : Hashing = hashing salted s.hash_size in
    let width : per_block h ≡ digests_per_block s = ap (λ d. s.hash_size / d) sized in
    let w = wide s shaped in
    let more = some s shaped in
    (λ i. row_len (width i) (count i) (levels i)) ∙ row_len_top (digests_per_block s) s.blocks (omega arith) more

module _ (salted : Salted) (s : Shape) (n j : ℕ) (old : List Open) (old_root : Option (List ℕ)) (shaped : IsShape s)
    (sized : size_of salted.algorithm ≡ s.digest_size)
    (levels : length old ≡ levels_of s) (few : n ≤ s.blocks) (settling : Settling (digests_per_block s) n s.blocks j old old_root)
    (there : j < length old)
    (done : n < s.blocks → length (open_at old j).digests ≡ digests_per_block s) where
  turn_width : per_block (hashing salted s.hash_size) ≡ digests_per_block s
  turn_width = ap (λ d. s.hash_size / d) sized

  pub turn_below : (open_at old j).index < len_of s j
  turn_below = let w = wide s shaped in index_below (digests_per_block s) n s.blocks j old old_root (omega arith) few settling there

  module _ (image : List (List ℕ)) (count : length image ≡ s.blocks) (right : IsRight (hashing salted s.hash_size) image old old_root) where
    turn_settling : Settling (per_block (hashing salted s.hash_size)) n (length image) j old old_root
    turn_settling =
        let P : ℕ → Type 0 = λ k. Settling k n s.blocks j old old_root in
        let Q : ℕ → Type 0 = λ m. Settling (per_block (hashing salted s.hash_size)) n m j old old_root in
        subst Q (sym count) (subst P (sym turn_width) settling)

    turn_some : 0 < per_block (hashing salted s.hash_size)
    turn_some = let w = wide s shaped in omega (arith, turn_width)

    turn_done : n < length image → length (open_at old j).digests ≡ per_block (hashing salted s.hash_size)
    turn_done less = done (omega arith) ∙ sym turn_width

    turn_block : hash_block (hashing salted s.hash_size) (open_at old j).digests ≡ block_at (hashing salted s.hash_size) image
        (suc j) (open_at old j).index
    turn_block = closed_block (hashing salted s.hash_size) image n j old old_root turn_some (omega arith) turn_settling there
        turn_done right

    -- the block that is closed is the tree's at its place
    pub turn_tree : hash_block (hashing salted s.hash_size) (open_at old j).digests ≡ get_or
        (tree (hashing salted s.hash_size) image) (place_of s j (open_at old j).index) []
    turn_tree =
        let h : Hashing = hashing salted s.hash_size in
        let of = IsOfShape-hashing s salted image shaped sized count in
        let same : level_count (per_block h) (length image) ≡ levels_of s = λ i. level_count (turn_width i) (count i) in
        turn_block
        ∙ sym (level_block-row h image j (open_at old j).index of.hashing.branching (omega arith))
        ∙ sym (tree-shape_place s h image j (open_at old j).index of (omega arith) turn_below)

    pub turn_right : (new : List Open) (new_root : Option (List ℕ)) →
        Closes (hashing salted s.hash_size) j old new old_root new_root → IsRight (hashing salted s.hash_size) image new new_root
    turn_right new new_root closes =
        right_close (hashing salted s.hash_size) image n j old old_root turn_some (omega arith) turn_settling there turn_done right
        new new_root closes
        (top_of_shape s salted image (length old) shaped sized count levels)

-- a data block's digest comes to level 0
module _ (salted : Salted) (s : Shape) (n : ℕ) (block : List ℕ) (old new : List Open) (old_root new_root : Option (List ℕ))
    (shaped : IsShape s) (sized : size_of salted.algorithm ≡ s.digest_size)
    (levels : length old ≡ levels_of s) (growing : Growing (digests_per_block s) n old old_root)
    (comes : Comes 0 (salted_digest salted block) old new old_root new_root) where
  pub come_right : (image : List (List ℕ)) → length image ≡ s.blocks → n < s.blocks → get_or image n [] ≡ block
      → IsRight (hashing salted s.hash_size) image old old_root → IsRight (hashing salted s.hash_size) image new new_root
  come_right image count below read right =
      let h : Hashing = hashing salted s.hash_size in
      let width : per_block h ≡ digests_per_block s = ap (λ d. s.hash_size / d) sized in
      let P : ℕ → Type 0 = λ k. Growing k n old old_root in
      right_come h image n (salted_digest salted block) old new old_root new_root (top_of_shape s salted image (length old) shaped
      sized count levels)
      (subst P (sym width) growing) comes (omega arith) (ap (salted_digest salted) (sym read)) right

  pub come_stored : (start : ℕ) (blocks content : List (List ℕ)) → AreStored s start blocks old content →
      AreStored s start blocks new content
  come_stored start blocks content stored l i there below =
      let inside : l < length old = (let len = comes.len in omega arith) in
      let index = same_index (digests_per_block s) n (salted_digest salted block) old new old_root new_root growing comes l inside in
      stored l i inside (omega arith)
