-- The numbers of the tree above level 0.
use Rattle.std.specs.Int.{div_ceil}
use Rattle.std.proofs.Math.Nat.{mul-le-mul_right, add-mul}
use Rattle.std.proofs.Common.{◌≡◌, ℕ, ◌+◌, ◌*◌, ◌^◌, ◌<◌, ◌≤◌, ◌⊎◌, inl, inr, List, [], ◌++◌, length, replicate, sym, ap, ◌∙◌, arith}
use Rattle.std.proofs.lemmas.Bool.{cond-true, cond-false, lt-ltb, le-ltb, le-leb, and_from, cases_lt}
use Rattle.std.proofs.lemmas.List.{length-append, length-replicate}
use Rattle.verity_digest.specs.Hash.{Salted, size_of, hashing}
use Rattle.verity_digest.specs.Tree.{Hashing, per_block, tree, root}
use Rattle.verity_digest.specs.Rows.{row}
use Rattle.verity_digest.proofs.Ceil.{IsCeil-div_ceil}
use Rattle.verity_digest.proofs.Counts.{row_len-zero, row_len_two, row_len_some, row_len-half, last_end, level_len-zero}
use Rattle.verity_geometry.specs.Geometry.{Shape, IsShape, IsOfShape, digests_per_block, levels_of, len_of, start_of, total_of}
use Rattle.verity_geometry.proofs.OfShape.{IsOfShape-hashing, same_per_block, length-shape_row, length-shape_tree}
use Rattle.verity_geometry.proofs.Shapes.{branching, wide, some, few}
use Rattle.verity_profile.specs.Profile.{IsBlockCount}
use Rattle.verity_slices.specs.Level.{leaves_of, upper}
use Rattle.verity_slices.proofs.Splits.{tree_parts, root_parts}

pub leaves_some : (s : Shape) → 0 < levels_of s → leaves_of s ≡ len_of s 0
leaves_some s there = cond-true _ _ _ (lt-ltb 0 (levels_of s) there)

pub leaves_none : (s : Shape) → levels_of s ≡ 0 → leaves_of s ≡ 0
leaves_none s none = cond-false _ _ _ (le-ltb 0 (levels_of s) (omega arith))

-- where there is a block of level 0 there is a level
pub leaves_there : (s : Shape) (i : ℕ) → i < leaves_of s → (0 < levels_of s) × (i < len_of s 0)
leaves_there s i below = elim (cases_lt 0 (levels_of s)) [
  | inl some_level ↦ (some_level, omega (arith, below, leaves_some s some_level))
  | inr no_level ↦
      let none : levels_of s ≡ 0 = omega (arith, no_level) in
      absurd (omega (arith, below, leaves_none s none))
]

module _ (s : Shape) (shaped : IsShape s) (there : 0 < levels_of s) where
  -- there are two data blocks or more
  pub blocks_two : 1 < s.blocks
  blocks_two =
      let two = row_len_two (digests_per_block s) s.blocks 0 (branching s shaped) there in
      omega (arith, two, row_len-zero (digests_per_block s) s.blocks)

  pub level_count_low : 0 < len_of s 0
  level_count_low =
      let k = branching s shaped in
      row_len_some (digests_per_block s) s.blocks 1 (omega (arith, k)) (some s shaped)

  pub level_count_high : len_of s 0 ≤ s.blocks
  level_count_high =
      let half = row_len-half (digests_per_block s) s.blocks 0 (wide s shaped) there in
      omega (arith, half, row_len-zero (digests_per_block s) s.blocks)

  pub upper_count : IsBlockCount (len_of s 0)
  upper_count =
      let low = level_count_low in
      let high : len_of s 0 ≤ 2 ^ 40 = omega (arith, level_count_high, few s shaped) in
      and_from _ _ (le-leb 1 (len_of s 0) low) (le-leb (len_of s 0) (2 ^ 40) high)

  pub upper_shaped : IsShape (upper s)
  upper_shaped = record {
    data_size = shaped.hash_size;
    hash_size = shaped.hash_size;
    digest_size = shaped.digest_size;
    blocks = upper_count;
  }

  module _ (salted : Salted) (sized : size_of salted.algorithm ≡ s.digest_size) where
    module _ (image : List (List ℕ)) (count : length image ≡ s.blocks) where
      of_shape : IsOfShape s (hashing salted s.hash_size) image
      of_shape = IsOfShape-hashing s salted image shaped sized count

      two : 2 ≤ per_block (hashing salted s.hash_size)
      two = of_shape.hashing.branching

      more : 1 < length image
      more = omega (arith, blocks_two, count)

      pub level_count : length (row (hashing salted s.hash_size) image 1) ≡ len_of s 0
      level_count = length-shape_row s (hashing salted s.hash_size) image 1 of_shape

      pub level_of_shape : IsOfShape (upper s) (hashing salted s.hash_size) (row (hashing salted s.hash_size) image 1)
      level_of_shape = IsOfShape-hashing (upper s) salted (row (hashing salted s.hash_size) image 1) upper_shaped sized level_count

      pub parts_tree : tree (hashing salted s.hash_size) image ≡ tree (hashing salted s.hash_size)
          (row (hashing salted s.hash_size) image 1) ++ row (hashing salted s.hash_size) image 1
      parts_tree = tree_parts (hashing salted s.hash_size) image two more

      pub parts_root : root (hashing salted s.hash_size) image ≡ root (hashing salted s.hash_size)
          (row (hashing salted s.hash_size) image 1)
      parts_root = root_parts (hashing salted s.hash_size) image two more

      total_parts : total_of s ≡ total_of (upper s) + len_of s 0
      total_parts =
          let h : Hashing = hashing salted s.hash_size in
          sym (length-shape_tree s h image of_shape)
          ∙ ap length parts_tree
          ∙ length-append (tree h (row h image 1)) (row h image 1)
          ∙ (λ i. length-shape_tree (upper s) h (row h image 1) level_of_shape i + level_count i)

    pub upper_total : total_of (upper s) ≡ start_of s 0
    upper_total =
        let parts = total_parts (replicate s.blocks []) (length-replicate s.blocks []) in
        omega (arith, parts, last_end (digests_per_block s) s.blocks there)

    pub upper_end : total_of (upper s) + len_of s 0 ≡ total_of s
    upper_end = omega (arith, upper_total, last_end (digests_per_block s) s.blocks there)

-- the first data block below a block of level 0 is one
pub leaf_first : (s : Shape) (i : ℕ) → IsShape s → i < len_of s 0 → i * digests_per_block s < s.blocks
leaf_first s i shaped below =
    let k : ℕ = digests_per_block s in
    let wider = wide s shaped in
    let is : len_of s 0 ≡ div_ceil s.blocks k = level_len-zero k s.blocks (omega (arith, wider)) in
    let up = IsCeil-div_ceil s.blocks k (omega (arith, wider)) in
    let room : (i + 1) * k ≤ div_ceil s.blocks k * k = mul-le-mul_right k (omega (arith, below, is)) in
    omega (arith, room, up.below, add-mul i 1 k)
