-- The blocks below the hash blocks of a level, of which those of a run take no memory of their own.
use Rattle.std.proofs.Common.{◌≡◌, ℕ, zero, suc, ◌+◌, ◌-◌, ◌<◌, ◌≤◌, eqb, ltb, true, false, List, [], ◌∷◌, ◌++◌, length, take, get_or}
use Rattle.std.proofs.Common.{⊎_elim, refl, sym, ◌∙◌, arith}
use Rattle.std.specs.List.Sorted.{IsNonDecreasingBy, IsPartitionPoint}
use Rattle.std.proofs.lemmas.Bool.{cases_lt, cond-true, cond-false, eq-eqb, ne_eqb, ltb-true, ltb-false}
use Rattle.std.proofs.lemmas.List.{length-append, length-take-le, length-map, get_or-map, get_or-take, get_or_append_left}
use Rattle.std.proofs.lemmas.List.{get_or-append_right}
use Rattle.std.proofs.lemmas.List.FromFn.{length-map-range_with_len, get_or-map-range_with_len}
use Rattle.verity_pending.specs.declared.child.Child.{Child}
use Rattle.verity_pending.specs.Slots.{nobody, child_at}
use Rattle.verity_pending.specs.Plan.{numbers_of}
use Rattle.verity_pending.specs.Children.{digest_among, spread}
use Rattle.verity_pending.proofs.ParentLemmas.{Rising}

-- children whose numbers rise

Rising-least : (lo : ℕ) (ns : List ℕ) (j : ℕ) → Rising lo ns → j < length ns → lo ≤ get_or ns j 0
Rising-least lo [] j r below = absurd (omega arith)
Rising-least lo (n ∷ ns) zero r below = r.0
Rising-least lo (n ∷ ns) (suc j) r below = let low = r.0 in let rest = Rising-least (suc n) ns j r.1 (omega arith) in omega arith

rises : (lo : ℕ) (children : List Child) → Rising lo (numbers_of children) → (i j : ℕ) (d : Child) → i ≤ j → j < length children →
    (get_or children i d).number ≤ (get_or children j d).number
rises lo [] r i j d le below = absurd (omega arith)
rises lo (x ∷ children) r zero zero d le below = omega arith
rises lo (x ∷ children) r zero (suc j) d le below =
    let low = Rising-least (suc x.number) (numbers_of children) j r.1 (let n = length-map children (λ y. y.number) in omega arith) in
    let at : get_or (numbers_of children) j 0 ≡ (get_or children j d).number = get_or-map (λ y. y.number) children j d 0 (omega arith) in
    omega arith
rises lo (x ∷ children) r (suc i) zero d le below = absurd (omega arith)
rises lo (x ∷ children) r (suc i) (suc j) d le below = rises (suc x.number) children r.1 i j d (omega arith) (omega arith)

pub rising_children : (children : List Child) → Rising 0 (numbers_of children) → IsNonDecreasingBy (λ child. child.number) children
rising_children children r i j d le below = rises 0 children r i j d le below

-- the digest of a number that one of them has

named_here : (cs : List Child) (common : List ℕ) (n i : ℕ) → ((j : ℕ) → j < i → (child_at cs j).number ≡ n → ⊥) → i < length cs →
    (child_at cs i).number ≡ n → digest_among cs common n ≡ (child_at cs i).digest
named_here [] common n i apart below is = absurd (omega arith)
named_here (x ∷ cs) common n zero apart below is = cond-true (eqb x.number n) x.digest (digest_among cs common n) (eq-eqb x.number n is)
named_here (x ∷ cs) common n (suc i) apart below is =
    cond-false (eqb x.number n) x.digest (digest_among cs common n) (ne_eqb x.number n (apart 0 (omega arith)))
    ∙ named_here cs common n i (λ j lt. apart (suc j) (omega arith)) (omega arith) is

named_nowhere : (cs : List Child) (common : List ℕ) (n : ℕ) → ((j : ℕ) → j < length cs → (child_at cs j).number ≡ n → ⊥) →
    digest_among cs common n ≡ common
named_nowhere [] common n apart = refl
named_nowhere (x ∷ cs) common n apart =
    cond-false (eqb x.number n) x.digest (digest_among cs common n) (ne_eqb x.number n (apart 0 (omega arith)))
    ∙ named_nowhere cs common n (λ j lt. apart (suc j) (omega arith))

-- where the numbers rise, it is that of the first whose number isn't below it

abbrev pub IsFirstFrom : ℕ → List Child → ℕ → Type 0
IsFirstFrom n cs i = IsPartitionPoint (λ child. ltb child.number n ≡ true) (λ child. ltb child.number n ≡ false) cs i

below_first : (cs : List Child) (n i : ℕ) → IsFirstFrom n cs i → (j : ℕ) → j < i → (child_at cs j).number ≡ n → ⊥
below_first cs n i parted j lt is = let low = ltb-true (child_at cs j).number n (parted.0 j nobody (omega arith) lt) in absurd (omega arith)

pub digest_here : (cs : List Child) (common : List ℕ) (n i : ℕ) → IsFirstFrom n cs i → i < length cs → (child_at cs i).number ≡ n →
    digest_among cs common n ≡ (child_at cs i).digest
digest_here cs common n i parted below is = named_here cs common n i (below_first cs n i parted) below is

pub digest_past : (cs : List Child) (common : List ℕ) (n i : ℕ) → IsFirstFrom n cs i → length cs ≤ i → digest_among cs common n ≡ common
digest_past cs common n i parted past = named_nowhere cs common n (λ j lt. below_first cs n i parted j (omega arith))

pub digest_apart : (cs : List Child) (common : List ℕ) (n i : ℕ) → IsFirstFrom n cs i → IsNonDecreasingBy (λ child. child.number) cs →
    i < length cs → ((child_at cs i).number ≡ n → ⊥) → digest_among cs common n ≡ common
digest_apart cs common n i parted rising below apart = named_nowhere cs common n (λ j lt is.
    ⊎_elim (λ early. below_first cs n i parted j early is)
    (λ late.
    let low = ltb-false (child_at cs i).number n (parted.1 i nobody (omega arith) below) in
    let up = rising i j nobody late lt in
    apart (omega arith))
    (cases_lt j i))

-- all of them

abbrev pub all_of : List Child → List ℕ → ℕ → ℕ → ℕ → List Child → List Child
all_of named common before from to behind = take before named ++ (spread named common from to ++ behind)

length_run : (named : List Child) (common : List ℕ) (from to : ℕ) → length (spread named common from to) ≡ to - from
length_run named common from to =
    length-map-range_with_len (λ n. let c : Child = record { number = n; digest = digest_among named common n } in c) from (to - from)

pub length_all : (named : List Child) (common : List ℕ) (before from to : ℕ) (behind : List Child) → before ≤ length named →
    length (all_of named common before from to behind) ≡ before + (to - from) + length behind
length_all named common before from to behind fits =
    let a = length-append (take before named) (spread named common from to ++ behind) in
    let b = length-append (spread named common from to) behind in
    let t = length-take-le before named fits in
    let r = length_run named common from to in
    omega arith

pub at_named : (named : List Child) (common : List ℕ) (before from to : ℕ) (behind : List Child) (c : ℕ) → before ≤ length named →
    c < before → child_at (all_of named common before from to behind) c ≡ child_at named c
at_named named common before from to behind c fits low =
    let t = length-take-le before named fits in
    get_or_append_left (take before named) (spread named common from to ++ behind) nobody c (omega arith)
    ∙ get_or-take before named c nobody low

past_named : (named : List Child) (common : List ℕ) (before from to : ℕ) (behind : List Child) (c : ℕ) → before ≤ length named →
    before ≤ c → child_at (all_of named common before from to behind) c ≡ child_at (spread named common from to ++ behind) (c - before)
past_named named common before from to behind c fits high =
    get_or-append_right (take before named) (spread named common from to ++ behind) before c nobody (length-take-le before named fits) high

pub at_run : (named : List Child) (common : List ℕ) (before from to : ℕ) (behind : List Child) (c n : ℕ) → before ≤ length named →
    before ≤ c → c - before < to - from → n ≡ from + (c - before) →
    child_at (all_of named common before from to behind) c ≡ record { number = n; digest = digest_among named common n }
at_run named common before from to behind c n fits high inside is =
    let r = length_run named common from to in
    past_named named common before from to behind c fits high
    ∙ get_or_append_left (spread named common from to) behind nobody (c - before) (omega arith)
    ∙ get_or-map-range_with_len (λ m. let x : Child = record { number = m; digest = digest_among named common m } in x) from (to - from)
    (c - before) n nobody inside (sym is)

pub at_behind : (named : List Child) (common : List ℕ) (before from to : ℕ) (behind : List Child) (c : ℕ) → before ≤ length named →
    before ≤ c → to - from ≤ c - before →
    child_at (all_of named common before from to behind) c ≡ child_at behind (c - before - (to - from))
at_behind named common before from to behind c fits high past =
    past_named named common before from to behind c fits high
    ∙ get_or-append_right (spread named common from to) behind (to - from) (c - before) nobody (length_run named common from to) past
