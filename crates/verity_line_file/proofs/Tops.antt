-- The root hash of an image is the digest of its top block.
use Rattle.std.proofs.Common.{◌≡◌, refl, sym, ap, ◌∙◌, ℕ, zero, suc, ◌+◌, ◌^◌, ◌<◌, ◌≤◌, Bool, true, false, List, [], ◌∷◌, length, arith}
use Rattle.std.specs.Prelude.{slice_index_or, ◌==◌, if◌then◌else◌}
use Rattle.std.proofs.Math.Nat.{pow-zero}
use Rattle.std.proofs.lemmas.Bool.{eqb-true}
use Rattle.std.proofs.lemmas.Bool.Decides.{nat_tests}
use Rattle.verity_profile.specs.Profile.{IsBlockCount, IsBlockSize}
use Rattle.verity_digest.specs.Hash.{Salted, hashing, salted_digest}
use Rattle.verity_digest.specs.Tree.{Hashing, per_block, root, tree, IsHashing, IsLevelCount}
use Rattle.verity_digest.specs.Shape.{level_count, level_len, level_start, place}
use Rattle.verity_digest.specs.Rows.{tree_levels, level_block}
use Rattle.verity_digest.specs.Laws.{HasNoLevel, CountsBlocks, PlacesBlocks, OrdersLevels, NamesDigests, HashesAll}
use Rattle.verity_superblock.specs.Line.{TableLine, IsTableLine, salted_by}
use Rattle.verity_superblock.specs.Superblock.{Volume, salted}
use Rattle.verity_line_file.specs.Shown.{HasSizes, Shows, values_of}
use Rattle.verity_line_file.specs.Top.{hashing_by, IsOfImage, top_of, ShowsItsLine}

-- there is a level above more than one block
some_level : (k n L : ℕ) → n ≤ k ^ L → 1 < n → (l : ℕ) × (suc l ≡ L)
some_level k n zero enough more = absurd (omega (arith, pow-zero k, enough, more))
some_level k n (suc l) enough more = (l, refl)

of_many : (h : Hashing) (image : List (List ℕ)) → CountsBlocks h image → PlacesBlocks h image
    → OrdersLevels (per_block h) (length image) → NamesDigests h image → 1 < length image
    → root h image ≡ h.digest (slice_index_or (tree h image) 0 [])
of_many h image counts places orders names more =
    let k = per_block h in let n = length image in
    let top = some_level k n (length (tree_levels h image)) counts.least.enough more in
    let l = top.0 in
    let last : suc l ≡ level_count k n = top.1 ∙ counts.levels in
    let below : l < level_count k n = omega (arith, last) in
    let one : level_len k n l ≡ 1 = orders.single l last in
    let first : place k n l 0 ≡ 0 = omega (arith, orders.first l last) in
    names.top l last
    ∙ ap h.digest (sym (places l 0 below (omega (arith, one))))
    ∙ ap (λ p. h.digest (slice_index_or (tree h image) p [])) first

of_one : (h : Hashing) (image : List (List ℕ)) → ((block : List ℕ) → HasNoLevel h block) → length image ≡ 1
    → root h image ≡ h.digest (slice_index_or image 0 [])
of_one h [] single one = absurd (omega (arith, one))
of_one h (block ∷ []) single one = (single block).root
of_one h (block ∷ next ∷ rest) single one = absurd (omega (arith, one))

module _ (single : (h : Hashing) (block : List ℕ) → HasNoLevel h block) (hashes : HashesAll)
    (counts : (h : Hashing) (image : List (List ℕ)) → 2 ≤ per_block h → CountsBlocks h image)
    (places : (h : Hashing) (image : List (List ℕ)) → 2 ≤ per_block h → PlacesBlocks h image)
    (orders : (k n : ℕ) → 2 ≤ k → 0 < n → OrdersLevels k n)
    (names : (h : Hashing) (image : List (List ℕ)) → IsHashing h → NamesDigests h image) where
  hashes_by : (t : TableLine) → IsTableLine t → IsHashing (hashing_by t)
  hashes_by t line = hashes.trees (salted_by t) t.hash_block_size (grind (arith, nat_tests, line.hash_size))

  by_count : (t : TableLine) (image : List (List ℕ)) → IsOfImage t image → (b : Bool) → (t.data_blocks == 1) ≡ b
      → root (hashing_by t) image ≡ salted_digest (salted_by t)
      (if b then slice_index_or image 0 [] else slice_index_or (tree (hashing_by t) image) 0 [])
  by_count t image of true is =
      of_one (hashing_by t) image (single (hashing_by t)) (of.blocks ∙ eqb-true t.data_blocks 1 is)
  by_count t image of false is =
      let h = hashing_by t in
      let is_hashing : IsHashing h = hashes_by t of.line in
      let counted : IsBlockCount t.data_blocks = of.line.count in
      let same : length image ≡ t.data_blocks = of.blocks in
      let more : 1 < length image = grind (arith, nat_tests, counted, same, is) in
      of_many h image (counts h image is_hashing.branching) (places h image is_hashing.branching)
      (orders (per_block h) (length image) is_hashing.branching (omega (arith, more))) (names h image is_hashing) more

  pub shows_its_line : ShowsItsLine
  shows_its_line t image volume start of sizes =
      let hashed : salted_by t ≡ salted volume.params = (λ i. record { algorithm = sizes.algorithm i; salt = sizes.salt i }) in
      record {
        sizes = record {
          data_size = sizes.data_size;
          hash_size = sizes.hash_size;
          count = sizes.count;
          start = sizes.start;
          algorithm = sizes.algorithm;
          salt = sizes.salt;
        };
        root = sym of.root ∙ by_count t image of (t.data_blocks == 1) refl
            ∙ ap (λ (s : Salted). salted_digest s (top_of t image)) hashed;
      }
