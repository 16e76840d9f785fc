-- A tree by its places in a store, and the tree that a commit leaves.
use Rattle.std.proofs.Common.{◌≡◌, ℕ, zero, suc, ◌+◌, ◌-◌, ◌/◌, ◌^◌, ◌<◌, ◌≤◌, true, false, List, [], length, drop, get_or, Some}
use Rattle.std.proofs.Common.{None, ⊎_elim, inl, inr, sym, ap, ◌∙◌, arith}
use Rattle.std.specs.Int.{div_ceil}
use Rattle.std.proofs.Math.Nat.{pow-le-pow_right, div-mul-le_self}
use Rattle.std.proofs.lemmas.Bool.{cases_lt, cases_Bool, both_ways}
use Rattle.std.proofs.lemmas.List.{ext_get_or, get_or-drop, get_or-take, length-drop, length-map, get_or-map}
use Rattle.verity_digest.specs.Tree.{Hashing, per_block, tree, root}
use Rattle.verity_digest.specs.Shape.{row_len, level_count, level_len, level_start, place, blocks_of_levels, total}
use Rattle.verity_digest.specs.Rows.{row, block_at}
use Rattle.verity_digest.proofs.Numbers.{IsLevelCount-level_count, level_below}
use Rattle.verity_digest.proofs.Counts.{blocks_of_levels-first, blocks_of_levels-none, level_within, row_len-suc, row_len_top}
use Rattle.verity_digest.proofs.Rows.{length-row, length-tree, tree-place, level_block-row, block_at-run, root-row}
use Rattle.verity_pending.specs.Edits.{Edits}
use Rattle.verity_pending.specs.Touched.{is_touched}
use Rattle.verity_pending.specs.Kept.{KeepsUnchanged}
use Rattle.verity_pending.specs.Digests.{digests_of}
use Rattle.verity_plan.specs.Level.{Holds}
use Rattle.verity_plan.specs.Standing.{BeginsWith}
use Rattle.verity_pending.proofs.Untouched.{begun}
use Rattle.verity_plan.proofs.Kept.{keeps_untouched}
use Rattle.verity_plan.proofs.Renewed.{touched_above_old}

-- where a place of a tree stands: block `index` of level `level`
record PlaceOf (k c l n p : ℕ) : Type 0 where
  level : ℕ
  index : ℕ
  low : l ≤ level
  high : level < l + n
  inside : index < level_len k c level
  at : p ≡ blocks_of_levels k c (suc level) (l + n - suc level) + index

place_of : (k c n l p : ℕ) → p < blocks_of_levels k c l n → PlaceOf k c l n p
place_of k c zero l p below = let none = blocks_of_levels-none k c l in absurd (omega arith)
place_of k c (suc n) l p below =
    let first = blocks_of_levels-first k c l n in
    let next : l + 1 ≡ suc l = omega arith in
    ⊎_elim
    (λ later.
    let r = place_of k c n (l + 1) p later in
    let lo = r.low in let hi = r.high in
    let end : l + 1 + n - suc r.level ≡ l + suc n - suc r.level = omega arith in
    record {
      level = r.level;
      index = r.index;
      low = omega arith;
      high = omega arith;
      inside = r.inside;
      at = r.at
          ∙ ap (λ m. blocks_of_levels k c (suc r.level) m + r.index) end;
    })
    (λ here.
    let end : n ≡ l + suc n - suc l = omega arith in
    record {
      level = l;
      index = p - blocks_of_levels k c (l + 1) n;
      low = omega arith;
      high = omega arith;
      inside = omega arith;
      at = (let e : p ≡ blocks_of_levels k c (l + 1) n + (p - blocks_of_levels k c (l + 1) n) = omega arith in e)
          ∙ ap (λ m. blocks_of_levels k c m n + (p - blocks_of_levels k c (l + 1) n)) next
          ∙ ap (λ m. blocks_of_levels k c (suc l) m + (p - blocks_of_levels k c (l + 1) n)) end;
    })
    (cases_lt p (blocks_of_levels k c (l + 1) n))

-- blocks that are those of a tree at each of its places are the tree
pub tree_by_places : (h : Hashing) (image xs : List (List ℕ)) → 2 ≤ per_block h → length xs ≡ total (per_block h) (length image)
    → ((l i : ℕ) → l < level_count (per_block h) (length image) → i < level_len (per_block h) (length image) l
    → get_or xs (place (per_block h) (length image) l i) [] ≡ block_at h image (suc l) i)
    → xs ≡ tree h image
tree_by_places h image xs two len each =
    let k : ℕ = per_block h in
    let c : ℕ = length image in
    ext_get_or [] xs (tree h image) (len ∙ sym (length-tree h image two))
    (λ p below.
    let r = place_of k c (level_count k c) 0 p (omega arith) in
    let l : ℕ = r.level in
    let there : l < level_count k c = (let hi = r.high in omega arith) in
    let all : 0 + level_count k c - suc l ≡ level_count k c - suc l = omega arith in
    let at : p ≡ place k c l r.index = r.at ∙ ap (λ m. blocks_of_levels k c (suc l) m + r.index) all in
    ap (λ q. get_or xs q []) at ∙ each l r.index there r.inside
    ∙ sym (ap (λ q. get_or (tree h image) q []) at ∙ tree-place h image l r.index two there r.inside
    ∙ level_block-row h image l r.index two there))

-- the blocks of a tree that stands in a store
pub stands_at : (h : Hashing) (image content : List (List ℕ)) (first l i : ℕ) → 2 ≤ per_block h →
    BeginsWith (drop first content) (tree h image)
    → l < level_count (per_block h) (length image) → i < level_len (per_block h) (length image) l
    → get_or content (first + place (per_block h) (length image) l i) [] ≡ block_at h image (suc l) i
stands_at h image content first l i two stands there inside =
    let k : ℕ = per_block h in
    let c : ℕ = length image in
    let p : ℕ = place k c l i in
    let within = level_within k c l there in
    let len = length-tree h image two in
    let low : p < length (tree h image) = omega arith in
    sym (get_or-drop first content p [])
    ∙ sym (get_or-take (length (tree h image)) (drop first content) p [] low)
    ∙ ap (λ xs. get_or xs p []) stands
    ∙ tree-place h image l i two there inside
    ∙ level_block-row h image l i two there

-- a level of the tree, where it stands in a store
pub holds_level : (h : Hashing) (image content : List (List ℕ)) (first l : ℕ) → 2 ≤ per_block h →
    BeginsWith (drop first content) (tree h image)
    → l < level_count (per_block h) (length image)
    → Holds h (digests_of h image l) (record {
      start = first + level_start (per_block h) (length image) l;
      len = level_len (per_block h) (length image) l;
      first = None;
    }) content
holds_level h image content first l two stands there =
    let k : ℕ = per_block h in
    let c : ℕ = length image in
    let p : 0 < k = omega arith in
    let long : length (digests_of h image l) ≡ row_len k c l = length-map (row h image l) h.digest ∙ length-row h image l p in
    let count : div_ceil (length (digests_of h image l)) k ≡ level_len k c l = ap (λ n. div_ceil n k) long ∙ sym (row_len-suc k c l p) in
    record {
      blocks = λ i below.
          let at : first + level_start k c l + i ≡ first + place k c l i = omega arith in
          ap (λ q. get_or content q []) at ∙ stands_at h image content first l i two stands there below ∙ block_at-run h image l i p below;
      rest = λ j below. inl (let low = div-mul-le_self j k in
          let s = begun (length (digests_of h image l)) k (j / k) p (omega arith) in omega arith);
    }

-- above the top level there is the root alone
pub holds_root : (h : Hashing) (image content : List (List ℕ)) → 2 ≤ per_block h → 0 < length image
    → Holds h (digests_of h image (level_count (per_block h) (length image)))
    (record { start = 0; len = 0; first = Some (root h image) }) content
holds_root h image content two some =
    let k : ℕ = per_block h in
    let L : ℕ = level_count k (length image) in
    let one : length (row h image L) ≡ 1 = length-row h image L (omega arith) ∙ row_len_top k (length image) two some in
    let long : length (digests_of h image L) ≡ 1 = length-map (row h image L) h.digest ∙ one in
    record {
      blocks = λ i below. absurd (omega arith);
      rest = λ j below.
          let z : j ≡ 0 = omega arith in
          inr (z, ap Some (root-row h image two some ∙ sym (get_or-map h.digest (row h image L) 0 [] [] (omega arith))));
    }

pub holds_none : (h : Hashing) (content : List (List ℕ)) → Holds h [] (record { start = 0; len = 0; first = None }) content
holds_none h content = record { blocks = λ i below. absurd (omega arith); rest = λ j below. absurd (omega arith) }

-- the tree of the working image stands in a store where the touched blocks were written and the others are those of the
-- committed image's tree, moved to their new places
pub tree_after : (h : Hashing) (e : Edits) (first : ℕ) (before after : List (List ℕ)) → 2 ≤ per_block h → KeepsUnchanged e
    → BeginsWith (drop first before) (tree h e.committed)
    → ((l i : ℕ) → l < level_count (per_block h) (length e.working) → i < level_len (per_block h) (length e.working) l →
    is_touched (per_block h) e l i ≡ true
    → get_or after (first + place (per_block h) (length e.working) l i) [] ≡ block_at h e.working (suc l) i)
    → ((l i : ℕ) → l < level_count (per_block h) (length e.committed) → l < level_count (per_block h) (length e.working)
    → i < level_len (per_block h) (length e.committed) l → i < level_len (per_block h) (length e.working) l →
    is_touched (per_block h) e l i ≡ false
    → get_or after (first + place (per_block h) (length e.working) l i) [] ≡ get_or before
    (first + place (per_block h) (length e.committed) l i) [])
    → length after ≡ first + total (per_block h) (length e.working)
    → drop first after ≡ tree h e.working
tree_after h e first before after two kept stands written moved len =
    let k : ℕ = per_block h in
    let m : ℕ = length e.committed in
    let n : ℕ = length e.working in
    let p : 0 < k = omega arith in
    tree_by_places h e.working (drop first after) two (length-drop first after
    ∙ (let d : length after - first ≡ total k n = omega arith in d))
    (λ l i there inside.
    get_or-drop first after (place k n l i) []
    ∙ ⊎_elim
    (λ yes. written l i there inside yes)
    (λ no.
    let old = keeps_untouched h e p kept l i inside no in
    let old_there : l < level_count k m = ⊎_elim (λ less. less)
    (λ above.
    let enough = IsLevelCount-level_count k m two in
    let wide : k ^ level_count k m ≤ k ^ l = pow-le-pow_right p above in
    let far = enough.enough in
    let big : k ^ l < n = level_below k n l two there in
    absurd (both_ways (is_touched k e l i) no (touched_above_old h e l i two kept (omega arith) (omega arith) inside)))
    (cases_lt l (level_count k m)) in
    moved l i old_there there old.0 inside no
    ∙ stands_at h e.committed before first l i two stands old_there old.0
    ∙ sym old.1)
    (cases_Bool (is_touched k e l i)))
