-- The hash device over level 0.
use Rattle.std.proofs.Common.{◌≡◌, ℕ, ◌+◌, ◌-◌, ◌<◌, ◌≤◌, ◌⊎◌, inl, inr, List, [], ◌∷◌, ◌++◌, length, take, drop, get_or, set}
use Rattle.std.proofs.Common.{sym, ap, ◌∙◌, arith}
use Rattle.std.specs.Prelude.{Option}
use Rattle.std.proofs.lemmas.List.{ext_get_or, get_or-take, get_or-drop, length-take-le, length-drop, length-set, take-append-drop}
use Rattle.std.proofs.lemmas.List.{drop-drop, drop-take, get_or-set_other, get_or-set_same}
use Rattle.verity_digest.specs.Hash.{Salted, size_of, hashing}
use Rattle.verity_digest.specs.Tree.{Hashing, tree}
use Rattle.verity_geometry.specs.Geometry.{Shape, IsShape, digests_per_block, levels_of, total_of, place_of}
use Rattle.verity_store.specs.Blocks.{resized}
use Rattle.verity_tree.specs.Open.{Open}
use Rattle.verity_tree.specs.Climb.{open_at}
use Rattle.verity_build.specs.Progress.{Grown}
use Rattle.verity_build.specs.Device.{AreStored}
use Rattle.verity_build.proofs.Finishes.{holds_tree, in_parts, length-resized, get_or-resized_old, resized_agree, all_closed}
use Rattle.verity_slices.specs.Level.{level_in}
use Rattle.verity_slices.specs.Walked.{IsLevel}
use Rattle.verity_digest.proofs.Counts.{level_within}

-- level 0 as it stands in a content that has its length
pub level_stands : (u : Shape) (start : ℕ) (old : List (List ℕ))
    → IsLevel (start + total_of u) u.blocks (resized u.hash_size (start + total_of u + u.blocks) old) (level_in u start old)
level_stands u start old =
    let before : ℕ = start + total_of u in
    let whole : List (List ℕ) = resized u.hash_size (before + u.blocks) old in
    record {
      len = length-take-le u.blocks (drop before whole)
          (omega (arith, length-drop before whole, length-resized u.hash_size (before + u.blocks) old));
      each = λ j below. get_or-take u.blocks (drop before whole) j [] below ∙ get_or-drop before whole j [];
    }

-- the blocks in front, the superblock's, the tree that was stored, and level 0
module _ (u : Shape) (start : ℕ) (old mid new : List (List ℕ)) (superblock : List ℕ) (behind : 1 ≤ start)
    (mid_len : length mid ≡ start + total_of u + u.blocks)
    (others : (q : ℕ) → (q < start) ⊎ (start + total_of u ≤ q)
    → get_or mid q [] ≡ get_or (resized u.hash_size (start + total_of u + u.blocks) old) q [])
    (is : new ≡ set mid (start - 1) superblock) where
  new_len : length new ≡ start + total_of u + u.blocks
  new_len = ap length is ∙ length-set mid (start - 1) superblock ∙ mid_len

  new_other : (q : ℕ) → start ≤ q → get_or new q [] ≡ get_or mid q []
  new_other q from =
      ap (λ c. get_or c q []) is
      ∙ get_or-set_other mid (start - 1) q superblock [] (λ e. absurd (omega (arith, e, from, behind)))

  level_there : drop (start + total_of u) new ≡ level_in u start old
  level_there =
      let before : ℕ = start + total_of u in
      let stands = level_stands u start old in
      let long : length (drop before new) ≡ u.blocks = omega (arith, length-drop before new, new_len) in
      ext_get_or [] (drop before new) (level_in u start old) (long ∙ sym stands.len)
      (λ j below.
      let inside : j < u.blocks = omega (arith, below, long) in
      get_or-drop before new j [] ∙ new_other (before + j) (omega arith) ∙ others (before + j) (inr (omega arith))
      ∙ sym (stands.each j inside))

  pub joined_is : (blocks : List (List ℕ)) → take (total_of u) (drop start new) ≡ blocks
      → new ≡ resized u.hash_size (start - 1) old ++ (superblock ∷ (blocks ++ level_in u start old))
  joined_is blocks tree_there =
      let n : ℕ = start - 1 in
      let full : ℕ = start + total_of u + u.blocks in
      let next : n + 1 ≡ start = omega (arith, behind) in
      let here : get_or new n [] ≡ superblock =
      ap (λ c. get_or c n []) is ∙ get_or-set_same mid n superblock [] (omega (arith, mid_len, behind)) in
      let back : drop start new ≡ blocks ++ level_in u start old =
      sym (take-append-drop (total_of u) (drop start new))
      ∙ ap (λ b. b ++ drop (total_of u) (drop start new)) tree_there
      ∙ ap (λ b. blocks ++ b) (drop-drop (total_of u) start new ∙ level_there) in
      in_parts n (resized u.hash_size n old) new (omega (arith, new_len, behind)) (length-resized u.hash_size n old)
      (λ q below.
      ap (λ c. get_or c q []) is
      ∙ get_or-set_other mid n q superblock [] (λ e. absurd (omega (arith, e, below)))
      ∙ others q (inl (omega (arith, below)))
      ∙ resized_agree u.hash_size full n old q (omega (arith, below)) below)
      ∙ ap (λ b. resized u.hash_size n old ++ (b ∷ drop (n + 1) new)) here
      ∙ ap (λ m. resized u.hash_size n old ++ (superblock ∷ drop m new)) next
      ∙ ap (λ bs. resized u.hash_size n old ++ (superblock ∷ bs)) back

  -- .. where each closed block was stored in its place
  pub tree_there : (opens : List Open) (known : Option (List ℕ)) (shaped : IsShape u) → length opens ≡ levels_of u
      → Grown (digests_per_block u) u.blocks opens known → (salted : Salted) (image : List (List ℕ))
      → size_of salted.algorithm ≡ u.digest_size
      → length image ≡ u.blocks → AreStored u start (tree (hashing salted u.hash_size) image) opens mid
      → take (total_of u) (drop start new) ≡ tree (hashing salted u.hash_size) image
  tree_there opens known shaped levels grown salted image sized count stored =
      let h : Hashing = hashing salted u.hash_size in
      let part : List (List ℕ) = take (start + total_of u) new in
      let long : length part ≡ start + total_of u = length-take-le (start + total_of u) new (omega (arith, new_len)) in
      sym (drop-take start (total_of u) new)
      ∙ holds_tree u opens known shaped levels grown salted image sized count start part
      (λ l i there below.
      let closed = all_closed u opens known shaped levels grown l (omega (arith, there, levels)) in
      let within = level_within (digests_per_block u) u.blocks l (omega (arith, there, levels)) in
      get_or-take (start + total_of u) new (start + place_of u l i) [] (omega (arith, below, closed, within))
      ∙ new_other (start + place_of u l i) (omega arith)
      ∙ stored l i there below)
      long
