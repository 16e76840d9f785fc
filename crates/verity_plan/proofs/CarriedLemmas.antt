-- The tree that stands where levels were moved and the plan was written.
use Rattle.std.proofs.Common.{◌≡◌, ℕ, zero, suc, ◌+◌, ◌-◌, ◌^◌, ◌<◌, ◌≤◌, false, List, [], ◌∷◌, length, drop, get_or, set, ⊎_elim}
use Rattle.std.proofs.Common.{◌⊎◌, inl, inr, refl, sym, ap, ◌∙◌, subst, arith}
use Rattle.std.proofs.lemmas.Bool.{cases_lt, cases_eq, cases_Bool, both_ways}
use Rattle.std.proofs.lemmas.List.{length-append, get_or_append_left, get_or-append_right, get_or-drop, length-drop}
use Rattle.std.proofs.lemmas.List.{get_or-set_other, length-set, ext_get_or}
use Rattle.std.proofs.Math.Nat.{pow-le-pow_right}
use Rattle.verity_digest.specs.Tree.{Hashing, per_block, tree}
use Rattle.verity_digest.specs.Shape.{level_count, level_len, level_start, place, total}
use Rattle.verity_digest.specs.Rows.{block_at}
use Rattle.verity_digest.proofs.Numbers.{IsLevelCount-level_count, level_below}
use Rattle.verity_digest.proofs.Counts.{level_within}
use Rattle.verity_digest.proofs.Rows.{tree-place, level_block-row}
use Rattle.verity_geometry.specs.Geometry.{levels_of, len_of, start_of, total_of}
use Rattle.verity_plan.specs.declared.tree.Change.{Change}
use Rattle.verity_pending.specs.Edits.{Edits}
use Rattle.verity_pending.specs.Touched.{is_touched, touched}
use Rattle.verity_pending.specs.Digests.{digests_of}
use Rattle.verity_plan.specs.Levels.{BothMoved}
use Rattle.verity_pending.specs.Plan.{Planned, nothing_planned, planned_at, made_blocks}
use Rattle.verity_pending.specs.Written.{AreWritten, OnlyPlanned}
use Rattle.verity_plan.specs.Making.{touched_blocks}
use Rattle.verity_plan.specs.Carried.{IsCarried}
use Rattle.verity_plan.proofs.Kept.{keeps_untouched}
use Rattle.verity_plan.proofs.Renewed.{touched_above_old}
use Rattle.verity_plan.proofs.Trees.{tree_by_places, stands_at}
use Rattle.verity_pending.proofs.ParentLemmas.{Has, filter_has, in_filter}

no_more : (m : Planned) (plan : List Planned) (q c : ℕ) → c < length (m ∷ plan) → (m.at ≡ q → ⊥) →
    ((d : ℕ) → d < length plan → (planned_at plan d).at ≡ q → ⊥) → (planned_at (m ∷ plan) c).at ≡ q → ⊥
no_more m plan q zero below apart none = apart
no_more m plan q (suc c) below apart none = none c (omega arith)

-- some block of the plan is written at a place, or none is
some_place : (plan : List Planned) (q : ℕ) → ((c : ℕ) × (c < length plan) × ((planned_at plan c).at ≡ q)) ⊎
    ((c : ℕ) → c < length plan → (planned_at plan c).at ≡ q → ⊥)
some_place [] q = inr (λ c below e. absurd (omega arith))
some_place (m ∷ plan) q =
    ⊎_elim
    (λ here. inl (0, omega arith, here))
    (λ apart. ⊎_elim
    (λ some. let l = some.1 in inl (suc some.0, omega arith, some.2))
    (λ none. inr (λ c below. no_more m plan q c below apart none))
    (some_place plan q))
    (cases_eq m.at q)

-- the touched blocks are in the plan

in_made : (h : Hashing) (new : List (List ℕ)) (start i : ℕ) (ns : List ℕ) → Has ns i → (c : ℕ) ×
    (c < length (made_blocks h new start ns)) × ((planned_at (made_blocks h new start ns) c).at ≡ start + i)
in_made h new start i [] has = absurd has
in_made h new start i (n ∷ ns) has =
    ⊎_elim (λ e. (0, omega arith, ap (λ m. start + m) (sym e)))
    (λ t. let r = in_made h new start i ns t in let l = r.1 in (suc r.0, omega arith, r.2)) has

in_plan : (h : Hashing) (e : Edits) (first n l i L : ℕ) → l < L → Has (touched (per_block h) e l) i
    → (c : ℕ) × (c < length (touched_blocks h e first n L)) ×
    ((planned_at (touched_blocks h e first n L) c).at ≡ first + level_start (per_block h) n l + i)
in_plan h e first n l i zero below has = absurd (omega arith)
in_plan h e first n l i (suc L) below has =
    let front : List Planned = touched_blocks h e first n L in
    let back : List Planned = made_blocks h (digests_of h e.working L) (first + level_start (per_block h) n L)
    (touched (per_block h) e L) in
    let len = length-append front back in
    ⊎_elim
    (λ earlier.
    let r = in_plan h e first n l i L earlier has in
    let low : r.0 < length front = r.1 in
    (r.0, omega arith, ap (λ m. m.at) (get_or_append_left front back nothing_planned r.0 low) ∙ r.2))
    (λ late.
    let same : l ≡ L = omega arith in
    let r = in_made h (digests_of h e.working L) (first + level_start (per_block h) n L) i (touched (per_block h) e L)
    (subst (λ (m : ℕ). Has (touched (per_block h) e m) i) same has) in
    let low = r.1 in
    let at : length front ≤ length front + r.0 = omega arith in
    let shift : length front + r.0 - length front ≡ r.0 = omega arith in (
      length front + r.0,
      omega arith,
      ap (λ m. m.at) (get_or-append_right front back (length front) (length front + r.0) nothing_planned refl at
          ∙ ap (λ j. get_or back j nothing_planned) shift)
          ∙ r.2 ∙ ap (λ m. first + level_start (per_block h) n m + i) (sym same),
    ))
    (cases_lt l L)

-- each block of the plan is the block of the tree at its place, and stands in it

abbrev Fits : Hashing → Edits → ℕ → List Planned → Type 0
Fits h e first plan = (c : ℕ) → c < length plan →
    ((planned_at plan c).block ≡ get_or (tree h e.working) ((planned_at plan c).at - first) []) × (first ≤ (planned_at plan c).at) ×
    ((planned_at plan c).at < first + total (per_block h) (length e.working))

fits_made : (h : Hashing) (e : Edits) (first l : ℕ) (ns : List ℕ) → 2 ≤ per_block h → l < level_count (per_block h) (length e.working)
    → ((i : ℕ) → Has ns i → i < level_len (per_block h) (length e.working) l)
    → Fits h e first (made_blocks h (digests_of h e.working l) (first + level_start (per_block h) (length e.working) l) ns)
fits_made h e first l [] two there inside c below = absurd (omega arith)
fits_made h e first l (n ∷ ns) two there inside zero below =
    let k : ℕ = per_block h in
    let N : ℕ = length e.working in
    let low = inside n (inl refl) in
    let within = level_within k N l there in
    let at : first + level_start k N l + n - first ≡ place k N l n = omega arith in (
      sym (ap (λ p. get_or (tree h e.working) p []) at ∙ tree-place h e.working l n two there low
          ∙ level_block-row h e.working l n two there),
      omega arith,
      omega arith,
    )
fits_made h e first l (n ∷ ns) two there inside (suc c) below =
    fits_made h e first l ns two there (λ i has. inside i (inr has)) c (omega arith)

fits_plan : (h : Hashing) (e : Edits) (first L : ℕ) → 2 ≤ per_block h → L ≤ level_count (per_block h) (length e.working) →
    Fits h e first (touched_blocks h e first (length e.working) L)
fits_plan h e first zero two le c below = absurd (omega arith)
fits_plan h e first (suc L) two le c below =
    let k : ℕ = per_block h in
    let N : ℕ = length e.working in
    let front : List Planned = touched_blocks h e first N L in
    let back : List Planned = made_blocks h (digests_of h e.working L) (first + level_start k N L) (touched k e L) in
    let P : Planned → Type 0 = λ m. (m.block ≡ get_or (tree h e.working) (m.at - first) []) × (first ≤ m.at) × (m.at < first + total k N) in
    ⊎_elim
    (λ low. subst P (sym (get_or_append_left front back nothing_planned c low)) (fits_plan h e first L two (omega arith) c low))
    (λ high.
    let inside : c - length front < length back = (let n = length-append front back in omega arith) in
    subst P (sym (get_or-append_right front back (length front) c nothing_planned refl high))
    (fits_made h e first L (touched k e L) two (omega arith)
    (λ i has. let f = in_filter (is_touched k e L) (level_len k N L) 0 i has in let u = f.high in omega arith)
    (c - length front) inside))
    (cases_lt c (length front))

-- the places of a plan are in the tree, whatever the store holds
pub carried : (h : Hashing) (e : Edits) (c : Change) (before moved after : List (List ℕ)) (plan : List Planned) →
    IsCarried h e c before plan
    → BothMoved c.first c.old c.new before moved
    → AreWritten (length plan) plan after → OnlyPlanned (length plan) plan moved after
    → length after ≡ c.first + total_of c.new
    → drop c.first after ≡ tree h e.working
carried h e c before moved after plan is both written others len =
    let k : ℕ = per_block h in
    let m : ℕ = length e.committed in
    let n : ℕ = length e.working in
    let first : ℕ = c.first in
    let two : 2 ≤ k = is.two in
    let some : 0 < k = omega arith in
    let plan_is : plan ≡ touched_blocks h e first n (level_count k n) =
    is.plan_is ∙ (λ i. touched_blocks h e first (sym is.working i) (level_count (sym is.new_width i) (sym is.working i))) in
    let fits : Fits h e first plan = subst (Fits h e first) (sym plan_is) (fits_plan h e first (level_count k n) two (omega arith)) in
    let totals : total_of c.new ≡ total k n = (λ i. total (sym is.new_width i) (sym is.working i)) in
    tree_by_places h e.working (drop first after) two (length-drop first after
    ∙ (let d : length after - first ≡ total k n = omega arith in d))
    (λ l i there inside.
    let q : ℕ = first + place k n l i in
    let own : get_or (tree h e.working) (q - first) [] ≡ block_at h e.working (suc l) i =
    (let at : q - first ≡ place k n l i = omega arith in ap (λ p. get_or (tree h e.working) p []) at)
    ∙ tree-place h e.working l i two there inside ∙ level_block-row h e.working l i two there in
    get_or-drop first after (place k n l i) []
    ∙ ⊎_elim
    (λ hit.
    ap (λ p. get_or after p []) (sym hit.2)
    ∙ written (λ p. get_or (tree h e.working) (p - first) []) (λ d below. (fits d below).0) hit.0 hit.1
    ∙ ap (λ p. get_or (tree h e.working) (p - first) []) hit.2
    ∙ own)
    (λ miss.
    let free : is_touched k e l i ≡ false = ⊎_elim
    (λ yes.
    let has : Has (touched k e l) i = filter_has (is_touched k e l) (level_len k n l) 0 i
    (record { low = omega arith; high = omega arith; passes = yes }) in
    let r = in_plan h e first n l i (level_count k n) there has in
    let s = subst (λ (xs : List Planned). (d : ℕ) × (d < length xs) × ((planned_at xs d).at ≡ first + level_start k n l + i))
    (sym plan_is) r in
    let at : first + level_start k n l + i ≡ q = omega arith in
    absurd (miss s.0 s.1 (s.2 ∙ at)))
    (λ n'. n') (cases_Bool (is_touched k e l i)) in
    let old = keeps_untouched h e some is.kept l i inside free in
    let old_there : l < level_count k m = ⊎_elim (λ less. less)
    (λ above.
    let enough = IsLevelCount-level_count k m two in
    let wide : k ^ level_count k m ≤ k ^ l = pow-le-pow_right some above in
    let far = enough.enough in
    let big : k ^ l < n = level_below k n l two there in
    absurd (both_ways (is_touched k e l i) free (touched_above_old h e l i two is.kept (omega arith) (omega arith) inside)))
    (cases_lt l (level_count k m)) in
    let new_start : start_of c.new l ≡ level_start k n l = (λ j. level_start (sym is.new_width j) (sym is.working j) l) in
    let old_start : start_of c.old l ≡ level_start k m l = (λ j. level_start (sym is.old_width j) (sym is.committed j) l) in
    let a : l < levels_of c.old = (let s : levels_of c.old ≡ level_count k
    m = (λ j. level_count (sym is.old_width j) (sym is.committed j)) in omega arith) in
    let b : l < levels_of c.new = (let s : levels_of c.new ≡ level_count k
    n = (λ j. level_count (sym is.new_width j) (sym is.working j)) in omega arith) in
    let x : i < len_of c.old l = (let s : len_of c.old l ≡ level_len k m
    l = (λ j. level_len (sym is.old_width j) (sym is.committed j) l) in let o = old.0 in omega arith) in
    let y : i < len_of c.new l = (let s : len_of c.new l ≡ level_len k n l = (λ j. level_len (sym is.new_width j) (sym is.working j)
    l) in omega arith) in
    let to : q ≡ first + start_of c.new l + i = omega arith in
    let from : first + start_of c.old l + i ≡ first + place k m l i = omega arith in
    others q miss
    ∙ ap (λ p. get_or moved p []) to
    ∙ both l i a b x y
    ∙ ap (λ p. get_or before p []) from
    ∙ stands_at h e.committed before first l i two is.stands old_there old.0
    ∙ sym old.1)
    (some_place plan q))

-- a write in front of a place changes nothing behind it
pub drop_set : (xs : List (List ℕ)) (n i : ℕ) (block : List ℕ) → i < n → drop n (set xs i block) ≡ drop n xs
drop_set xs n i block below =
    ext_get_or [] (drop n (set xs i block)) (drop n xs) (length-drop n (set xs i block) ∙ ap (λ m. m - n) (length-set xs i block)
    ∙ sym (length-drop n xs))
    (λ q inside. let apart : n + q ≡ i → ⊥ = λ e. absurd (omega arith) in
    get_or-drop n (set xs i block) q [] ∙ get_or-set_other xs i (n + q) block [] apart ∙ sym (get_or-drop n xs q []))
