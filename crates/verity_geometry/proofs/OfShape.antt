-- The numbers of a shape are those of the tree of each image of this shape.
-- For the layers above: `IsOfShape-hashing` (an image hashed with the shape's sizes), `length-shape_levels`,
-- `length-shape_level`, `length-shape_row`, `length-shape_tree`, `tree-shape_place` (which block of the tree stands at a
-- place), `tree_by_shape_places` (what is the tree), `slot-shape_leaf`, `slot-shape_parent`, `root-shape_top`, `starts_rise`,
-- `climbs_from`.
use Rattle.std.proofs.Common.{◌≡◌, ℕ, suc, ◌+◌, ◌/◌, ◌%◌, ◌<◌, ◌≤◌, List, [], length, get_or, refl, sym, ap, ◌∙◌, subst, arith}
use Rattle.verity_digest.specs.Tree.{Hashing, per_block, slot, root, tree}
use Rattle.verity_digest.specs.Hash.{Salted, hashing, size_of}
use Rattle.verity_digest.specs.Shape.{level_count, row_len, level_len, level_start, place, total}
use Rattle.verity_digest.specs.Rows.{row, tree_levels, level_block}
use Rattle.verity_digest.proofs.Sha.{IsHashing-hashing}
use Rattle.verity_digest.proofs.Growth.{above_within, above-zero, above-suc}
use Rattle.verity_digest.proofs.Rows.{length-levels, length-level_of, length-row, length-tree, tree-place, tree_by_places}
use Rattle.verity_digest.proofs.TreeLaws.{names_digests, grows_with_count}
use Rattle.verity_profile.proofs.Bounds.{block_size_low}
use Rattle.verity_geometry.specs.Geometry.{Shape, IsShape, IsOfShape, digests_per_block, levels_of, len_of, start_of, place_of}
use Rattle.verity_geometry.specs.Geometry.{total_of, above_of}
use Rattle.verity_geometry.specs.Laws.{ShapesImages, CountsLevels, PlacesBlocks, NamesParents, Grows, StartsRise, ClimbsFrom}
use Rattle.verity_geometry.proofs.Shapes.{branching}

pub IsOfShape-hashing : (s : Shape) (salted : Salted) (image : List (List ℕ)) → IsShape s → size_of salted.algorithm ≡ s.digest_size
    → length image ≡ s.blocks → IsOfShape s (hashing salted s.hash_size) image
IsOfShape-hashing s salted image ok digest blocks = record {
  hashing = IsHashing-hashing salted s.hash_size (block_size_low s.hash_size ok.hash_size);
  block_size = refl;
  digest_size = digest;
  blocks = blocks;
}

pub shapes_images : (s : Shape) → IsShape s → ShapesImages s
shapes_images s ok salted image digest blocks = IsOfShape-hashing s salted image ok digest blocks

pub same_per_block : (s : Shape) (h : Hashing) (image : List (List ℕ)) → IsOfShape s h image → per_block h ≡ digests_per_block s
same_per_block s h image of = ap (λ b. b / h.digest_size) of.block_size ∙ ap (λ d. s.hash_size / d) of.digest_size

-- what is a number of the image's tree is one of the shape
same_number : (f : ℕ → ℕ → ℕ) (s : Shape) (h : Hashing) (image : List (List ℕ)) → IsOfShape s h image →
    f (per_block h) (length image) ≡ f (digests_per_block s) s.blocks
same_number f s h image of = ap (λ k. f k (length image)) (same_per_block s h image of) ∙ ap (f (digests_per_block s)) of.blocks

pub length-shape_levels : (s : Shape) (h : Hashing) (image : List (List ℕ)) → IsOfShape s h image →
    length (tree_levels h image) ≡ levels_of s
length-shape_levels s h image of = length-levels h image of.hashing.branching ∙ same_number level_count s h image of

there : (s : Shape) (h : Hashing) (image : List (List ℕ)) (l : ℕ) → IsOfShape s h image → l < levels_of s →
    l < level_count (per_block h) (length image)
there s h image l of below = let same = same_number level_count s h image of in omega arith

pub length-shape_level : (s : Shape) (h : Hashing) (image : List (List ℕ)) (l : ℕ) → IsOfShape s h image → l < levels_of s
    → length (get_or (tree_levels h image) l []) ≡ len_of s l
length-shape_level s h image l of below =
    length-level_of h image l of.hashing.branching (there s h image l of below) ∙ same_number (λ k n. level_len k n l) s h image of

pub length-shape_row : (s : Shape) (h : Hashing) (image : List (List ℕ)) (r : ℕ) → IsOfShape s h image
    → length (row h image r) ≡ row_len (digests_per_block s) s.blocks r
length-shape_row s h image r of = length-row h image r (let two = of.hashing.branching in omega arith)
    ∙ same_number (λ k n. row_len k n r) s h image of

pub length-shape_tree : (s : Shape) (h : Hashing) (image : List (List ℕ)) → IsOfShape s h image → length (tree h image) ≡ total_of s
length-shape_tree s h image of = length-tree h image of.hashing.branching ∙ same_number total s h image of

pub counts_levels : (s : Shape) (h : Hashing) (image : List (List ℕ)) → IsOfShape s h image → CountsLevels s h image
counts_levels s h image of = record {
  levels = length-shape_levels s h image of;
  level = λ l below. length-shape_level s h image l of below;
  tree = length-shape_tree s h image of;
}

pub tree-shape_place : (s : Shape) (h : Hashing) (image : List (List ℕ)) (l i : ℕ) → IsOfShape s h image → l < levels_of s → i < len_of s l
    → get_or (tree h image) (place_of s l i) [] ≡ level_block h image l i
tree-shape_place s h image l i of below inside =
    let long = same_number (λ k n. level_len k n l) s h image of in
    ap (λ p. get_or (tree h image) p []) (sym (same_number (λ k n. place k n l i) s h image of))
    ∙ tree-place h image l i of.hashing.branching (there s h image l of below) (omega arith)

-- a list with each block of the image's tree where the shape places it is the tree
pub tree_by_shape_places : (s : Shape) (h : Hashing) (image blocks : List (List ℕ)) → IsOfShape s h image → length blocks ≡ total_of s
    → ((l i : ℕ) → l < levels_of s → i < len_of s l → get_or blocks (place_of s l i) [] ≡ level_block h image l i) → blocks ≡ tree h image
tree_by_shape_places s h image blocks of long each =
    tree_by_places h image blocks of.hashing.branching (long ∙ sym (same_number total s h image of))
    (λ l i below inside.
    let count = same_number level_count s h image of in
    let level = same_number (λ k n. level_len k n l) s h image of in
    ap (λ p. get_or blocks p []) (same_number (λ k n. place k n l i) s h image of) ∙ each l i (omega arith) (omega arith))

pub places_blocks : (s : Shape) (h : Hashing) (image : List (List ℕ)) → IsOfShape s h image → PlacesBlocks s h image
places_blocks s h image of l i below inside = tree-shape_place s h image l i of below inside

pub slot-shape_leaf : (s : Shape) (h : Hashing) (image : List (List ℕ)) (n : ℕ) → IsOfShape s h image → 0 < levels_of s → n < s.blocks
    → slot h (level_block h image 0 (n / digests_per_block s)) (n % digests_per_block s) ≡ h.digest (get_or image n [])
slot-shape_leaf s h image n of levels below =
    ap (λ k. slot h (level_block h image 0 (n / k)) (n % k)) (sym (same_per_block s h image of))
    ∙ (names_digests h image of.hashing).leaf n (there s h image 0 of levels) (omega (arith, of.blocks))

pub slot-shape_parent : (s : Shape) (h : Hashing) (image : List (List ℕ)) (l i : ℕ) → IsOfShape s h image → l + 1 < levels_of s →
    i < len_of s l
    → slot h (level_block h image (l + 1) (i / digests_per_block s)) (i % digests_per_block s) ≡ h.digest (level_block h image l i)
slot-shape_parent s h image l i of below inside =
    let at : l + 1 ≡ suc l = omega arith in
    let long = same_number (λ k n. level_len k n l) s h image of in
    ap (λ k. slot h (level_block h image (l + 1) (i / k)) (i % k)) (sym (same_per_block s h image of))
    ∙ ap (λ m. slot h (level_block h image m (i / per_block h)) (i % per_block h)) at
    ∙ (names_digests h image of.hashing).level l i (there s h image (suc l) of (omega arith)) (omega arith)

pub root-shape_top : (s : Shape) (h : Hashing) (image : List (List ℕ)) (l : ℕ) → IsOfShape s h image → l + 1 ≡ levels_of s
    → root h image ≡ h.digest (level_block h image l 0)
root-shape_top s h image l of top =
    let same = same_number level_count s h image of in
    (names_digests h image of.hashing).top l (omega arith)

pub names_parents : (s : Shape) (h : Hashing) (image : List (List ℕ)) → IsOfShape s h image → NamesParents s h image
names_parents s h image of = record {
  leaf = λ levels n below. slot-shape_leaf s h image n of levels below;
  parent = λ l i below inside. slot-shape_parent s h image l i of below inside;
  top = λ l top. root-shape_top s h image l of top;
}

pub starts_rise : (small large : Shape) → IsShape small → Grows small large → StartsRise small large
starts_rise small large ok g =
    let k : ℕ = digests_per_block small in
    let same : digests_per_block small ≡ digests_per_block large =
    sym (ap (λ b. b / large.digest_size) g.hash_size ∙ ap (λ d. small.hash_size / d) g.digest_size) in
    let rises = grows_with_count k small.blocks large.blocks (branching small ok) g.blocks in
    record {
      levels = let P : ℕ → Type 0 = λ j. levels_of small ≤ level_count j large.blocks in subst P same rises.levels;
      lengths = λ l. let P : ℕ → Type 0 = λ j. len_of small l ≤ level_len j large.blocks l in subst P same (rises.lengths (suc l));
      starts = λ l. let P : ℕ → Type 0 = λ j. start_of small l ≤ level_start j large.blocks l in subst P same (rises.starts l);
      total = let P : ℕ → Type 0 = λ j. total_of small ≤ total j large.blocks in subst P same rises.total;
    }

pub climbs_from : (s : Shape) → IsShape s → ClimbsFrom s
climbs_from s ok =
    let k : ℕ = digests_per_block s in
    record {
      within = λ l n below. above_within k s.blocks l n (let two = branching s ok in omega arith) below;
      leaf = λ n. above-zero k n;
      parent = λ l n. let at : l + 1 ≡ suc l = omega arith in ap (λ m. above_of s m n) at ∙ above-suc k l n;
    }
