-- Blocks of a tree that are compared with those of a store, the first difference kept.
use Rattle.std.proofs.Common.{◌≡◌, ◌≢◌, ℕ, suc, ◌+◌, ◌-◌, ◌<◌, ◌≤◌, List, [], length, take, drop, get_or, ltb}
use Rattle.std.proofs.Common.{⊎_elim, sym, ap, ◌∙◌, subst, arith}
use Rattle.std.specs.Prelude.{Option, None, Some}
use Rattle.std.proofs.lemmas.Bool.{cases_lt, cases_eq, cond-true, cond-false, lt-ltb, le-ltb}
use Rattle.std.proofs.lemmas.List.{ext_get_or, get_or-drop, get_or-take, get_or_past, length-take, length-drop}
use Rattle.std.proofs.lemmas.List.Elements.{All-get_or}
use Rattle.verity_digest.specs.Hash.{Salted, size_of, hashing}
use Rattle.verity_digest.specs.Tree.{Hashing, tree}
use Rattle.verity_digest.proofs.Counts.{starts_in_order, placed, level_within}
use Rattle.verity_digest.proofs.Sized.{AllSized-tree}
use Rattle.verity_profile.proofs.Bounds.{block_size_low}
use Rattle.verity_geometry.specs.Geometry.{Shape, IsShape, IsOfShape, digests_per_block, levels_of, len_of, start_of, place_of, total_of}
use Rattle.verity_geometry.proofs.OfShape.{IsOfShape-hashing, length-shape_tree}
use Rattle.verity_tree.specs.Open.{Open}
use Rattle.verity_tree.specs.Climb.{open_at, Closes}
use Rattle.verity_build.specs.Differences.{ComesBefore, Found, AreCompared, earlier, BeginsWith, IsFirstDifference}
use Rattle.verity_build.specs.declared.comparing.Place.{Place}
use Rattle.verity_build.proofs.Writes.{closed_before}

index_grows : (h : Hashing) (j : ℕ) (old new : List Open) (old_root new_root : Option (List ℕ)) →
    Closes h j old new old_root new_root → (l : ℕ) → l < length old → (open_at old l).index ≤ (open_at new l).index
index_grows h j old new old_root new_root closes l there =
    ⊎_elim
    (λ here. let e : (open_at new l).index ≡ (open_at old l).index + 1 = ap (λ m. (open_at new m).index) here
    ∙ ap (λ o. o.index) closes.here ∙ ap (λ m. (open_at old m).index + 1) (sym here) in omega arith)
    (λ other. ⊎_elim
    (λ next. let e : (open_at new l).index ≡ (open_at old l).index = ap (λ m. (open_at new m).index) next
    ∙ ap (λ o. o.index) (closes.above (omega arith)) ∙ ap (λ m. (open_at old m).index) (sym next) in omega arith)
    (λ later. let e : (open_at new l).index ≡ (open_at old l).index = ap (λ o. o.index) (closes.others l other later) in omega arith)
    (cases_eq l (suc j)))
    (cases_eq l j)

found_grows : (s : Shape) (start : ℕ) (blocks content : List (List ℕ)) (old new : List Open) (found : Option Place) →
    length new ≡ length old
    → ((l : ℕ) → l < length old → (open_at old l).index ≤ (open_at new l).index) → Found s start blocks old content found →
    Found s start blocks new content found
found_grows s start blocks content old new None len grows f = tt
found_grows s start blocks content old new (Some place) len grows f =
    (let a = f.0 in omega arith, let b = f.1 in let g = grows place.level f.0 in omega arith, f.2)

module _ (h : Hashing) (s : Shape) (start j : ℕ) (blocks content : List (List ℕ)) (old new : List Open)
    (old_root new_root : Option (List ℕ)) (closes : Closes h j old new old_root new_root)
    (there : j < length old) where
  same_before : (found : Option Place) → AreCompared s start blocks old content found → (l i : ℕ) → l < length new →
      i < (open_at new l).index
      → (place_of s l i ≡ place_of s j (open_at old j).index → ⊥) → ComesBefore s (place_of s l i) found
      → get_or content (start + place_of s l i) [] ≡ get_or blocks (place_of s l i) []
  same_before found compared l i inside below apart before =
      compared.same l i (let len = closes.len in omega arith)
      (closed_before h j old new old_root new_root closes l i (let len = closes.len in
      omega arith) below (λ e f. apart (λ t. place_of s (e t) (f t)))) before

  -- the block that is closed is the store's
  pub compared_same : (found : Option Place) → get_or content (start + place_of s j (open_at old j).index) [] ≡ get_or blocks
      (place_of s j (open_at old j).index) []
      → AreCompared s start blocks old content found → AreCompared s start blocks new content found
  compared_same found is compared = record {
    same = λ l i inside below before. ⊎_elim
        (λ e. ap (λ p. get_or content (start + p) []) e ∙ is ∙ ap (λ p. get_or blocks p []) (sym e))
        (λ apart. same_before found compared l i inside below apart before)
        (cases_eq (place_of s l i) (place_of s j (open_at old j).index));
    met = found_grows s start blocks content old new found closes.len (index_grows h j old new old_root new_root closes) compared.met;
  }

  -- it isn't
  module _ (levels : length old ≡ levels_of s) (index : (open_at old j).index < len_of s j) (most : (l : ℕ) → l < length old →
      (open_at old l).index ≤ len_of s l)
      (differs : get_or content (start + place_of s j (open_at old j).index) [] ≢ get_or blocks (place_of s j (open_at old j).index)
      []) where
    this_place : Place
    this_place = record { level = j; index = (open_at old j).index }

    this_found : Found s start blocks new content (Some (record { level = j; index = (open_at old j).index }))
    this_found = (let len = closes.len in omega arith, (let e = ap (λ o. o.index) closes.here in omega arith), differs)

    higher_first : (place : Place) → place.level < j → place_of s j (open_at old j).index < place_of s place.level place.index
    higher_first place lower =
        let order = starts_in_order (digests_per_block s) s.blocks place.level j lower (omega arith) in
        omega arith

    kept_first : (place : Place) → j ≤ place.level → place.level < length old → place.index < (open_at old place.level).index →
        place_of s place.level place.index < place_of s j (open_at old j).index
    kept_first place le inside below =
        let bound = most place.level inside in
        ⊎_elim
        (λ e. let same : start_of s place.level ≡ start_of s j = ap (λ l. start_of s l) e in
        let index_same : (open_at old place.level).index ≡ (open_at old j).index = ap (λ l. (open_at old l).index) e in omega arith)
        (λ apart. let order = starts_in_order (digests_per_block s) s.blocks j place.level (omega arith) (omega arith) in omega arith)
        (cases_eq place.level j)

    pub compared_other : (found : Option Place) → AreCompared s start blocks old content found →
        AreCompared s start blocks new content (earlier found (record { level = j; index = (open_at old j).index }))
    compared_other None compared = record {
      same = λ l i inside below before. same_before None compared l i inside below (λ e. absurd (omega arith)) tt;
      met = this_found;
    }
    compared_other (Some place) compared =
        let new_place : Place = record { level = j; index = (open_at old j).index } in
        let P : Option Place → Type 0 = λ f. AreCompared s start blocks new content f in
        ⊎_elim
        (λ lower.
        let less = higher_first place lower in
        subst P (sym (cond-true (ltb place.level j) (Some new_place) (Some place) (lt-ltb place.level j lower)))
        (record {
          same = λ l i inside below before. same_before (Some place) compared l i inside below (λ e. absurd (omega arith)) (omega arith);
          met = this_found;
        }))
        (λ le.
        let f = compared.met in
        let less = kept_first place le f.0 f.1 in
        subst P (sym (cond-false (ltb place.level j) (Some new_place) (Some place) (le-ltb place.level j le)))
        (record {
          same = λ l i inside below before. same_before (Some place) compared l i inside below (λ e. absurd (omega arith)) before;
          met = found_grows s start blocks content old new (Some place) closes.len
              (index_grows h j old new old_root new_root closes) compared.met;
        }))
        (cases_lt place.level j)

-- before the first data block nothing is compared
pub compared_none : (s : Shape) (start : ℕ) (blocks content : List (List ℕ)) (opens : List Open) →
    ((l : ℕ) → l < length opens → (open_at opens l).index ≡ 0) → AreCompared s start blocks opens content None
compared_none s start blocks content opens empty = record {
  same = λ l i there below before. let zeros = empty l there in
      absurd (omega arith);
  met = tt;
}

-- where no index changes nothing more is compared
pub compared_kept : (s : Shape) (start : ℕ) (blocks content : List (List ℕ)) (old new : List Open) (found : Option Place) →
    length new ≡ length old
    → ((l : ℕ) → l < length old → (open_at new l).index ≡ (open_at old l).index) → AreCompared s start blocks old content found →
    AreCompared s start blocks new content found
compared_kept s start blocks content old new found len same compared = record {
  same = λ l i there below before. compared.same l i (omega arith) (let e = same l (omega arith) in omega arith) before;
  met = found_grows s start blocks content old new found len (λ l there. let e = same l there in omega arith) compared.met;
}

-- behind the last data block every block was compared
module _ (s : Shape) (salted : Salted) (image : List (List ℕ)) (start : ℕ) (content : List (List ℕ)) (opens : List Open)
    (shaped : IsShape s) (sized : size_of salted.algorithm ≡ s.digest_size)
    (count : length image ≡ s.blocks) (levels : length opens ≡ levels_of s) (closed : (l : ℕ) → l < levels_of s →
    (open_at opens l).index ≡ len_of s l) where
  end_of : IsOfShape s (hashing salted s.hash_size) image
  end_of = IsOfShape-hashing s salted image shaped sized count

  same_at : (found : Option Place) → AreCompared s start (tree (hashing salted s.hash_size) image) opens content found → (q : ℕ) →
      q < total_of s → ComesBefore s q found
      → get_or content (start + q) [] ≡ get_or (tree (hashing salted s.hash_size) image) q []
  same_at found compared q below before =
      let here = placed (digests_per_block s) s.blocks q below in
      let P : ℕ → Type 0 = λ p. ComesBefore s p found →
      get_or content (start + p) [] ≡ get_or (tree (hashing salted s.hash_size) image) p [] in
      subst P here.at
      (λ first. compared.same here.level here.index (let there = here.there in omega arith) (let within = here.within in
      let all = closed here.level here.there in omega arith) first)
      before

  block_size_at : (q : ℕ) → q < total_of s → length (get_or (tree (hashing salted s.hash_size) image) q []) ≡ s.hash_size
  block_size_at q below =
      let h : Hashing = hashing salted s.hash_size in
      All-get_or (λ b. length b ≡ s.hash_size) (tree h image) q [] (let len = length-shape_tree s h image end_of in
      omega arith) (AllSized-tree h image end_of.hashing)

  -- the store is as long as the tree
  long_enough : AreCompared s start (tree (hashing salted s.hash_size) image) opens content None → 0 < total_of s →
      start + total_of s ≤ length content
  long_enough compared some =
      ⊎_elim
      (λ short.
      let q : ℕ = total_of s - 1 in
      let past : get_or content (start + q) [] ≡ [] = get_or_past content (start + q) [] (omega arith) in
      let is : [] ≡ get_or (tree (hashing salted s.hash_size) image) q [] = sym past ∙ same_at None compared q (omega arith) tt in
      let size = block_size_at q (omega arith) in
      let low = block_size_low s.hash_size shaped.hash_size in
      let none : 0 ≡ length (get_or (tree (hashing salted s.hash_size) image) q []) = ap length is in
      absurd (omega arith))
      (λ le. le)
      (cases_lt (length content) (start + total_of s))

  pub begins_with : AreCompared s start (tree (hashing salted s.hash_size) image) opens content None →
      BeginsWith start (tree (hashing salted s.hash_size) image) content
  begins_with compared =
      let h : Hashing = hashing salted s.hash_size in
      let len : length (tree h image) ≡ total_of s = length-shape_tree s h image end_of in
      let short : length (take (length (tree h image)) (drop start content)) ≡ length (tree h image) =
      ⊎_elim
      (λ (some : 0 < total_of s). let enough = long_enough compared some in rw (length-take, length-drop) (omega arith))
      (λ (none : total_of s ≤ 0). rw (length-take, length-drop) (omega arith))
      (cases_lt 0 (total_of s)) in
      ext_get_or [] (take (length (tree h image)) (drop start content)) (tree h image) short
      (λ q below.
      let inside : q < length (tree h image) = omega arith in
      get_or-take (length (tree h image)) (drop start content) q [] inside
      ∙ get_or-drop start content q []
      ∙ same_at None compared q (omega arith) tt)

  pub first_difference : (place : Place) → AreCompared s start (tree (hashing salted s.hash_size) image) opens content (Some place)
      → IsFirstDifference s start (tree (hashing salted s.hash_size) image) content place.level place.index
  first_difference place compared =
      let f = compared.met in
      let there : place.level < levels_of s = (let a = f.0 in omega arith) in
      let inside : place.index < len_of s place.level = (let b = f.1 in let all = closed place.level there in omega arith) in
      let within = level_within (digests_per_block s) s.blocks place.level there in
      record {
        level_there = there;
        index_there = inside;
        differs = f.2;
        before = λ q below. same_at (Some place) compared q (omega arith) below;
      }
