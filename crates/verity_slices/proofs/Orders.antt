-- Slices in any order leave level 0 of the image, and what stood in front.
use Rattle.std.proofs.Common.{◌≡◌, ℕ, suc, zero, ◌+◌, ◌-◌, ◌/◌, ◌<◌, ◌≤◌, ◌⊎◌, inl, inr, ⊎_elim, max, List, [], ◌∷◌, ◌++◌, length}
use Rattle.std.proofs.Common.{get_or, take, drop, Contains, refl, sym, ap, ◌∙◌, subst, arith}
use Rattle.std.proofs.lemmas.Bool.{cases_lt}
use Rattle.std.proofs.lemmas.List.{ext_get_or, get_or-drop, get_or-take, length-drop, length-take-le}
use Rattle.verity_digest.specs.Hash.{Salted, size_of, hashing}
use Rattle.verity_digest.specs.Tree.{Hashing, tree, root}
use Rattle.verity_digest.specs.Rows.{row, block_at}
use Rattle.verity_digest.proofs.Counts.{last_end}
use Rattle.verity_geometry.specs.Geometry.{Shape, IsShape, digests_per_block, levels_of, len_of, start_of, total_of, place_of}
use Rattle.verity_slice.specs.declared.run.Run.{Run}
use Rattle.verity_slice.specs.Slices.{IsIn, Covers}
use Rattle.verity_store.specs.Blocks.{resized}
use Rattle.verity_superblock.specs.Image.{start_behind}
use Rattle.verity_build.specs.Parameters.{Parameters, salted_by, front}
use Rattle.verity_build.proofs.Finishes.{length-resized, get_or-resized_old, resized_agree}
use Rattle.verity_slices.specs.Level.{leaves_of, level_in, upper}
use Rattle.verity_slices.specs.Leaves.{IsBeside, GrowsBeside}
use Rattle.verity_slices.specs.Laws.{LeavesSlice, LeaveSlices}
use Rattle.verity_slices.proofs.Uppers.{leaves_some, level_count, upper_total, upper_end}

-- in front of level 0 nothing changes but the length
front_one : (s : Shape) (start m : ℕ) (run : Run) (old new : List (List ℕ)) → GrowsBeside s start run old new → m ≤ start + start_of s 0
    → m ≤ start + total_of s → resized s.hash_size m new ≡ resized s.hash_size m old
front_one s start m run old new grows before within =
    let size : ℕ = s.hash_size in
    let full : ℕ = max (length old) (start + total_of s) in
    ext_get_or [] (resized size m new) (resized size m old) (length-resized size m new ∙ sym (length-resized size m old))
    (λ q below.
    let low : q < m = omega (arith, below, length-resized size m new) in
    get_or-resized_old size m new q low (omega (arith, low, within, grows.len))
    ∙ grows.others q (inl (omega (arith, low, before)))
    ∙ resized_agree size full m old q (omega (arith, low, within)) low)

pub front_all : (p : Parameters) (s : Shape) (offset m : ℕ) (image : List (List ℕ)) (runs : List Run) (old now : List (List ℕ))
    → LeaveSlices p s offset image runs old now → m ≤ start_behind offset s.hash_size + start_of s 0
    → m ≤ start_behind offset s.hash_size + total_of s → resized s.hash_size m now ≡ resized s.hash_size m old
front_all p s offset m image [] old now none before within = ap (λ c. resized s.hash_size m c) none
front_all p s offset m image (run ∷ runs) old now slices before within =
    front_all p s offset m image runs slices.0 now slices.2 before within
    ∙ front_one s (start_behind offset s.hash_size) m run old slices.0 slices.1.grows before within

-- the content reaches to the end of the tree, and has the image's block of level 0 at this place
record HasLeaf (h : Hashing) (s : Shape) (start : ℕ) (image : List (List ℕ)) (i : ℕ) (content : List (List ℕ)) : Type 0 where
  len : start + total_of s ≤ length content
  is : get_or content (start + place_of s 0 i) [] ≡ block_at h image 1 i

-- a slice leaves it, whether it is one of its own or not
leaf_one : (p : Parameters) (s : Shape) (offset : ℕ) (image : List (List ℕ)) (run : Run) (old new : List (List ℕ)) (i : ℕ)
    → i < len_of s 0 → 0 < levels_of s → LeavesSlice p s offset image run old new
    → HasLeaf (hashing (salted_by p) s.hash_size) s (start_behind offset s.hash_size) image i old
    → HasLeaf (hashing (salted_by p) s.hash_size) s (start_behind offset s.hash_size) image i new
leaf_one p s offset image run old new i below there slice has = record {
  len = omega (arith, slice.grows.len, has.len);
  is = ⊎_elim (λ early. beside (inl (omega (arith, early))))
      (λ from. ⊎_elim (λ own. slice.stored i from own) (λ late. beside (inr (omega (arith, late)))) (cases_lt i run.end))
      (cases_lt i run.first);
} where
  beside : IsBeside s (start_behind offset s.hash_size) run (start_behind offset s.hash_size + place_of s 0 i)
      → get_or new (start_behind offset s.hash_size + place_of s 0 i) [] ≡ block_at (hashing (salted_by p) s.hash_size) image 1 i
  beside apart =
      let q : ℕ = start_behind offset s.hash_size + place_of s 0 i in
      let full : ℕ = max (length old) (start_behind offset s.hash_size + total_of s) in
      let end = last_end (digests_per_block s) s.blocks there in
      let inside : q < length old = omega (arith, has.len, below, end) in
      slice.grows.others q apart ∙ get_or-resized_old s.hash_size full old q (omega (arith, inside)) inside ∙ has.is

leaf_kept : (p : Parameters) (s : Shape) (offset : ℕ) (image : List (List ℕ)) (runs : List Run) (old now : List (List ℕ)) (i : ℕ)
    → i < len_of s 0 → 0 < levels_of s → LeaveSlices p s offset image runs old now
    → HasLeaf (hashing (salted_by p) s.hash_size) s (start_behind offset s.hash_size) image i old
    → HasLeaf (hashing (salted_by p) s.hash_size) s (start_behind offset s.hash_size) image i now
leaf_kept p s offset image [] old now i below there none has =
    subst (λ c. HasLeaf (hashing (salted_by p) s.hash_size) s (start_behind offset s.hash_size) image i c) (sym none) has
leaf_kept p s offset image (run ∷ runs) old now i below there slices has =
    leaf_kept p s offset image runs slices.0 now i below there slices.2
    (leaf_one p s offset image run old slices.0 i below there slices.1 has)

leaf_made : (p : Parameters) (s : Shape) (offset : ℕ) (image : List (List ℕ)) (runs : List Run) (old now : List (List ℕ)) (i k : ℕ)
    (run : Run) → i < len_of s 0 → 0 < levels_of s → LeaveSlices p s offset image runs old now → k < length runs → get_or runs k run ≡ run
    → IsIn run i → HasLeaf (hashing (salted_by p) s.hash_size) s (start_behind offset s.hash_size) image i now
leaf_made p s offset image [] old now i k run below there slices inside is at = absurd (omega (arith, inside))
leaf_made p s offset image (first ∷ runs) old now i zero run below there slices inside is at =
    leaf_kept p s offset image runs slices.0 now i below there slices.2
    (record {
      len = omega (arith, slices.1.grows.len);
      is = slices.1.stored i (omega (arith, at.0, ap (λ (r : Run). r.first) is)) (omega (arith, at.1, ap (λ (r : Run). r.end) is));
    })
leaf_made p s offset image (first ∷ runs) old now i (suc k) run below there slices inside is at =
    leaf_made p s offset image runs slices.0 now i k run below there slices.2 (omega (arith, inside)) is at

-- level 0 as slices that cover it leave it is the image's
pub level_is : (p : Parameters) (s : Shape) (offset : ℕ) (image : List (List ℕ)) (made told : List Run) (old now : List (List ℕ))
    → IsShape s → size_of p.algorithm ≡ s.digest_size → length image ≡ s.blocks → 0 < levels_of s
    → LeaveSlices p s offset image made old now → ((run : Run) → Contains told run → Contains made run) → Covers told (leaves_of s)
    → level_in (upper s) (start_behind offset s.hash_size) now ≡ row (hashing (salted_by p) s.hash_size) image 1
level_is p s offset image made told old now shaped sized count there slices among covers =
    let h : Hashing = hashing (salted_by p) s.hash_size in
    let start : ℕ = start_behind offset s.hash_size in
    let before : ℕ = start + total_of (upper s) in
    let all : ℕ = before + len_of s 0 in
    let whole : List (List ℕ) = resized s.hash_size all now in
    let level : List (List ℕ) = level_in (upper s) start now in
    let rows : length (row h image 1) ≡ len_of s 0 = level_count s shaped there (salted_by p) sized image count in
    let long : length level ≡ len_of s 0 =
    length-take-le (len_of s 0) (drop before whole) (omega (arith, length-drop before whole, length-resized s.hash_size all now)) in
    ext_get_or [] level (row h image 1) (long ∙ sym rows)
    (λ i inside.
    let below : i < len_of s 0 = omega (arith, inside, long) in
    let found = covers i (omega (arith, below, leaves_some s there)) in
    let maker = among found.0 found.1 in
    let has = leaf_made p s offset image made old now i maker.0 found.0 below there slices maker.1 maker.2 found.2 in
    let total = upper_total s shaped there (salted_by p) sized in
    let end = upper_end s shaped there (salted_by p) sized in
    let at : before + i ≡ start + place_of s 0 i = omega (arith, total) in
    get_or-take (len_of s 0) (drop before whole) i [] below
    ∙ get_or-drop before whole i []
    ∙ get_or-resized_old s.hash_size all now (before + i) (omega (arith, below)) (omega (arith, below, has.len, end))
    ∙ ap (λ q. get_or now q []) at
    ∙ has.is)
