-- The plan of a commit: where its blocks belong, and how many there are.
use Rattle.std.proofs.Common.{◌≡◌, ℕ, zero, suc, ◌+◌, ◌-◌, ◌<◌, ◌≤◌, Bool, not, List, [], ◌∷◌, ◌++◌, length, map, replicate, get_or}
use Rattle.std.proofs.Common.{⊎_elim, inl, inr, refl, sym, ap, ◌∙◌, subst, arith}
use Rattle.std.specs.List.{filter, range_with_len}
use Rattle.std.proofs.lemmas.Bool.{cases_lt}
use Rattle.std.proofs.lemmas.List.{length-append, length-map, length-replicate, get_or-map, get_or_append_left, get_or-append_right}
use Rattle.std.proofs.lemmas.List.FromFn.{length-range_with_len}
use Rattle.std.proofs.lemmas.List.Filters.{length-filter_both}
use Rattle.std.proofs.lemmas.List.Sums.{sum_by-le-sum_by}
use Rattle.verity_digest.specs.Shape.{level_count, level_len, level_start, total, blocks_of_levels}
use Rattle.verity_digest.proofs.Counts.{level_within}
use Rattle.verity_pending.specs.Edits.{Edits}
use Rattle.verity_pending.specs.Touched.{changed_blocks, is_touched, touched, touched_count}
use Rattle.verity_pending.specs.Plan.{Planned, nothing_planned, places}
use Rattle.verity_plan.specs.Making.{touched_below, touched_places}
use Rattle.verity_plan.specs.Carried.{AreInTree}
use Rattle.verity_plan.proofs.MakingLemmas.{touched_below-more}
use Rattle.verity_pending.proofs.ParentLemmas.{Has, in_filter}

abbrev InTree : ℕ → ℕ → List ℕ → Type 0
InTree first all ps = (c : ℕ) → c < length ps → (first ≤ get_or ps c 0) × (get_or ps c 0 < first + all)

in_tree_append : (first all : ℕ) (xs ys : List ℕ) → InTree first all xs → InTree first all ys → InTree first all (xs ++ ys)
in_tree_append first all xs ys hx hy c below =
    let P : ℕ → Type 0 = λ q. (first ≤ q) × (q < first + all) in
    let len = length-append xs ys in
    ⊎_elim
    (λ low. subst P (sym (get_or_append_left xs ys 0 c low)) (hx c low))
    (λ high. subst P (sym (get_or-append_right xs ys (length xs) c 0 refl high)) (hy (c - length xs) (omega arith)))
    (cases_lt c (length xs))

in_tree_level : (first start len all : ℕ) (ns : List ℕ) → start + len ≤ all → ((i : ℕ) → Has ns i → i < len) →
    InTree first all (map (λ i. first + start + i) ns)
in_tree_level first start len all [] within inside c below = absurd (omega arith)
in_tree_level first start len all (n ∷ ns) within inside zero below = let low = inside n (inl refl) in (omega arith, omega arith)
in_tree_level first start len all (n ∷ ns) within inside (suc c) below =
    in_tree_level first start len all ns within (λ i has. inside i (inr has)) c (omega arith)

in_tree_touched : (k : ℕ) (e : Edits) (first L : ℕ) → L ≤ level_count k (length e.working) →
    InTree first (total k (length e.working)) (touched_places k e first (length e.working) L)
in_tree_touched k e first zero le = λ c below. absurd (omega arith)
in_tree_touched k e first (suc L) le =
    let n : ℕ = length e.working in
    let there : L < level_count k n = omega arith in
    let within = level_within k n L there in
    in_tree_append first (total k n) (touched_places k e first n L) (map (λ i. first + level_start k n L + i) (touched k e L))
    (in_tree_touched k e first L (omega arith))
    (in_tree_level first (level_start k n L) (level_len k n L) (total k n) (touched k e L) within
    (λ i has. let f = in_filter (is_touched k e L) (level_len k n L) 0 i has in let u = f.high in omega arith))

-- the blocks of a plan that belong at the touched places are in the tree
pub AreInTree-from : (k : ℕ) (e : Edits) (first n : ℕ) (plan : List Planned) → length e.working ≡ n →
    places plan ≡ touched_places k e first n (level_count k n) → AreInTree first (total k n) plan
AreInTree-from k e first n plan len at c below =
    let all : InTree first (total k n) (touched_places k e first n (level_count k n)) =
    subst (λ (m : ℕ). InTree first (total k m) (touched_places k e first m (level_count k m))) len
    (in_tree_touched k e first (level_count k (length e.working)) (omega arith)) in
    let there : InTree first (total k n) (places plan) = subst (InTree first (total k n)) (sym at) all in
    let inside : c < length (places plan) = (let l = length-map plan (λ p. p.at) in omega arith) in
    let P : ℕ → Type 0 = λ q. (first ≤ q) × (q < first + total k n) in
    subst P (get_or-map (λ p. p.at) plan c nothing_planned 0 below) (there c inside)

length-touched_places : (k : ℕ) (e : Edits) (first n L : ℕ) → length (touched_places k e first n L) ≡ touched_below k e L
length-touched_places k e first n zero = refl
length-touched_places k e first n (suc L) =
    let ns : List ℕ = touched k e L in
    let a = length-append (touched_places k e first n L) (map (λ i. first + level_start k n L + i) ns) in
    let b = length-map ns (λ i. first + level_start k n L + i) in
    let c = length-touched_places k e first n L in
    let d = touched_below-more k e L (suc L) (omega arith) in
    omega arith

-- and are as many as are touched
pub length-plan : (k : ℕ) (e : Edits) (first n : ℕ) (plan : List Planned) → length e.working ≡ n →
    places plan ≡ touched_places k e first n (level_count k n) → length plan ≡ touched_count k e
length-plan k e first n plan len at =
    sym (length-map plan (λ p. p.at)) ∙ ap length at ∙ length-touched_places k e first n (level_count k n)
    ∙ ap (λ m. touched_below k e (level_count k m)) (sym len)

pub length-filter-le : (p : ℕ → Bool) (xs : List ℕ) → length (filter p xs) ≤ length xs
length-filter-le p xs = let both = length-filter_both p (λ x. not (p x)) (λ x. refl) xs in omega arith

-- no more blocks are touched than there are
pub touched_count-le : (k : ℕ) (e : Edits) → touched_count k e ≤ total k (length e.working)
unfolding blocks_of_levels
touched_count-le k e =
    let n : ℕ = length e.working in
    sum_by-le-sum_by (λ l. length (touched k e l)) (level_len k n) (range_with_len 0 (level_count k n))
    (λ l. let f = length-filter-le (is_touched k e l) (range_with_len 0 (level_len k n l)) in
    let r = length-range_with_len 0 (level_len k n l) in omega arith)

pub changed-le : (e : Edits) → length (changed_blocks e) ≤ length e.working
changed-le e = let f = length-filter-le e.changed (range_with_len 0 (length e.working)) in let r =
    length-range_with_len 0 (length e.working) in omega arith

-- an image of so many blocks
unfoldable pub some_image : ℕ → List (List ℕ)
some_image n = replicate n []

pub length-some_image : (n : ℕ) → length (some_image n) ≡ n
unfolding some_image
length-some_image n = length-replicate n []
