-- A hash block changes only where it is touched.
use Rattle.std.proofs.Common.{◌≡◌, ℕ, suc, ◌+◌, ◌-◌, ◌*◌, ◌/◌, ◌^◌, ◌<◌, ◌≤◌, min, true, List, [], length, drop, get_or, ⊎_elim}
use Rattle.std.proofs.Common.{refl, sym, ap, ◌∙◌, arith}
use Rattle.std.specs.Int.{div_ceil}
use Rattle.std.specs.Fork.{slice_chunk}
use Rattle.std.proofs.Math.Nat.{pow-suc, one-le-pow, add-mul, mul-le-mul_right, lt_of_mul-lt-mul_right, div-div-eq-div-mul}
use Rattle.std.proofs.Math.Nat.{div-eq_of_lt-le, lt-div-mul-add, div-mul-le_self}
use Rattle.std.proofs.lemmas.Bool.{cases_lt}
use Rattle.std.proofs.lemmas.List.{length-map, get_or-map, get_or-take, get_or-drop, length-take, length-drop, ext_get_or}
use Rattle.verity_digest.specs.Tree.{Hashing, per_block, pack, hash_block}
use Rattle.verity_digest.specs.Shape.{row_len}
use Rattle.verity_digest.specs.Rows.{row}
use Rattle.verity_digest.proofs.Ceil.{IsCeil-div_ceil, same_ceil}
use Rattle.verity_digest.proofs.Packing.{length-pack, get_or-pack}
use Rattle.verity_digest.proofs.Rounds.{next, length-next}
use Rattle.verity_digest.proofs.Rows.{length-row}
use Rattle.verity_pending.specs.Edits.{Edits}
use Rattle.verity_pending.specs.Digests.{digests_of}

-- numbers of blocks

pub begins : (n d i : ℕ) → 0 < d → i < div_ceil n d → i * d < n
begins n d i p below =
    let up = IsCeil-div_ceil n d p in
    let wide : (i + 1) * d ≤ div_ceil n d * d = mul-le-mul_right d (omega arith) in
    omega (arith, up.below, add-mul i 1 d)

pub begun : (n d i : ℕ) → 0 < d → i * d < n → i < div_ceil n d
begun n d i p inside =
    let up = IsCeil-div_ceil n d p in
    lt_of_mul-lt-mul_right d (omega (arith, up.above))

pub div_ceil-le : (m n d : ℕ) → 0 < d → m ≤ n → div_ceil m d ≤ div_ceil n d
div_ceil-le m n d p le =
    ⊎_elim (λ less. let inside : div_ceil n d * d < m = begins m d (div_ceil n d) p less in
    let up = IsCeil-div_ceil n d p in absurd (omega (arith, up.above)))
    (λ more. more) (cases_lt (div_ceil n d) (div_ceil m d))

-- the last block lies above the last number
pub last_above : (n d : ℕ) → 0 < d → 0 < n → (n - 1) / d + 1 ≡ div_ceil n d
last_above n d p some =
    let low : (n - 1) / d * d ≤ n - 1 = div-mul-le_self (n - 1) d in
    let high : n - 1 < (n - 1) / d * d + d = lt-div-mul-add p in
    same_ceil n d ((n - 1) / d + 1) (div_ceil n d)
    (record { above = omega (arith, add-mul ((n - 1) / d) 1 d); below = omega (arith, add-mul ((n - 1) / d) 1 d) })
    (IsCeil-div_ceil n d p)

pub div_of : (i d j : ℕ) → i * d ≤ j → j < i * d + d → j / d ≡ i
div_of i d j low high = div-eq_of_lt-le d low (omega (arith, add-mul i 1 d))

-- runs

-- a run of digests is the same where each of them is, and where it isn't the end of fewer digests
pub same_run : (new old : List (List ℕ)) (k i : ℕ) → 0 < k → i * k < length new
    → ((j : ℕ) → i * k ≤ j → j < i * k + k → j < length new → (j < length old) × (get_or new j [] ≡ get_or old j []))
    → (length new < i * k + k → length old ≤ length new)
    → slice_chunk new k i ≡ slice_chunk old k i
same_run new old k i p some same whole =
    let a : ℕ = i * k in
    let long : min k (length new - a) ≡ min k (length old - a) =
    ⊎_elim
    (λ part.
    let last : (length new - 1 < length old) × (get_or new (length new - 1) [] ≡ get_or old (length new - 1) []) =
    same (length new - 1) (omega arith) (omega arith) (omega arith) in
    let fewer = whole part in
    omega (arith, last.0))
    (λ full.
    let last : (a + k - 1 < length old) × (get_or new (a + k - 1) [] ≡ get_or old (a + k - 1) []) =
    same (a + k - 1) (omega arith) (omega arith) (omega arith) in
    omega (arith, last.0))
    (cases_lt (length new) (a + k)) in
    let len_new : length (slice_chunk new k i) ≡ min k (length new - a) = length-take k (drop a new)
    ∙ ap (λ n. min k n) (length-drop a new) in
    let len_old : length (slice_chunk old k i) ≡ min k (length old - a) = length-take k (drop a old)
    ∙ ap (λ n. min k n) (length-drop a old) in
    ext_get_or [] (slice_chunk new k i) (slice_chunk old k i) (len_new ∙ long ∙ sym len_old)
    (λ r below.
    let inside : r < k = omega arith in
    let there : a + r < length new = omega arith in
    get_or-take k (drop a new) r [] inside ∙ get_or-drop a new r []
    ∙ (same (a + r) (omega arith) (omega arith) there).1
    ∙ sym (get_or-take k (drop a old) r [] inside ∙ get_or-drop a old r []))

-- levels

-- number j of level l lies above no changed block and, where the count fell, not above the last one. The data blocks are at 0
pub record Untouched (k : ℕ) (e : Edits) (l j : ℕ) : Type 0 where
  pub changed : (n : ℕ) → n < length e.working → e.changed n ≡ true → n / k ^ l ≡ j → ⊥
  pub last : length e.working < length e.committed → (length e.working - 1) / k ^ l ≡ j → ⊥

above_next : (n k l j i : ℕ) → n / k ^ l ≡ j → j / k ≡ i → n / k ^ suc l ≡ i
above_next n k l j i p q = ap (λ w. n / w) (pow-suc k l) ∙ sym (div-div-eq-div-mul n (k ^ l) k) ∙ ap (λ m. m / k) p ∙ q

Untouched-below : (k : ℕ) (e : Edits) (l j i : ℕ) → j / k ≡ i → Untouched k e (suc l) i → Untouched k e l j
Untouched-below k e l j i q u = record {
  changed = λ n within is at. u.changed n within is (above_next n k l j i at q);
  last = λ fell at. u.last fell (above_next (length e.working - 1) k l j i at q);
}

-- the digests of level l of the images before and after the edits agree where they aren't touched
pub record SameDigests (h : Hashing) (e : Edits) (l : ℕ) : Type 0 where
  pub same : (j : ℕ) → j < length (digests_of h e.working l) → Untouched (per_block h) e l j
      → (j < length (digests_of h e.committed l))
      × (get_or (digests_of h e.working l) j [] ≡ get_or (digests_of h e.committed l) j [])

-- a hash block that isn't touched is there in both trees, and is the same
abbrev pub SameBlock : Hashing → Edits → ℕ → ℕ → Type 0
SameBlock h e l i = (i < div_ceil (length (digests_of h e.committed l)) (per_block h))
    × (get_or (pack h (digests_of h e.working l)) i [] ≡ get_or (pack h (digests_of h e.committed l)) i [])

pub length-level_digests : (h : Hashing) (l : ℕ) (image : List (List ℕ)) → 0 < per_block h →
    length (digests_of h image l) ≡ div_ceil (length image) (per_block h ^ l)
unfolding row_len
length-level_digests h l image p = length-map (row h image l) h.digest ∙ length-row h image l p

-- the last block, where it isn't full and the count fell, is touched
last_is_touched : (h : Hashing) (e : Edits) (l i : ℕ) → 0 < per_block h → Untouched (per_block h) e (suc l) i
    → i * per_block h < length (digests_of h e.working l)
    → length (digests_of h e.working l) < i * per_block h + per_block h
    → length (digests_of h e.committed l) ≤ length (digests_of h e.working l)
last_is_touched h e l i p u some part =
    let k : ℕ = per_block h in
    let w : 0 < k ^ l = one-le-pow l k p in
    let news = length-level_digests h l e.working p in
    let olds = length-level_digests h l e.committed p in
    ⊎_elim
    (λ fell.
    let left : 0 < length e.working = ⊎_elim (λ more. more) (λ none.
    let nothing : length e.working ≡ 0 = omega arith in
    let inside : 0 * k ^ l < length e.working = begins (length e.working) (k ^ l) 0 w (omega arith) in
    omega arith) (cases_lt 0 (length e.working)) in
    let last = last_above (length e.working) (k ^ l) w left in
    let here : ((length e.working - 1) / k ^ l) / k ≡ i = div_of i k ((length e.working - 1) / k ^ l) (omega arith) (omega arith) in
    absurd (u.last fell (above_next (length e.working - 1) k l ((length e.working - 1) / k ^ l) i refl here)))
    (λ rose. let more = div_ceil-le (length e.committed) (length e.working) (k ^ l) w rose in omega arith)
    (cases_lt (length e.working) (length e.committed))

-- one level
pub same_block : (h : Hashing) (e : Edits) (l i : ℕ) → 0 < per_block h → SameDigests h e l
    → i < div_ceil (length (digests_of h e.working l)) (per_block h) → Untouched (per_block h) e (suc l) i → SameBlock h e l i
same_block h e l i p s below u =
    let k : ℕ = per_block h in
    let new : List (List ℕ) = digests_of h e.working l in
    let old : List (List ℕ) = digests_of h e.committed l in
    let some : i * k < length new = begins (length new) k i p below in
    let at : (j : ℕ) → i * k ≤ j → j < i * k + k → j < length new → (j < length old) × (get_or new j [] ≡ get_or old j []) =
    λ j low high inside. s.same j inside (Untouched-below k e l j i (div_of i k j low high) u) in
    let first : (i * k < length old) × (get_or new (i * k) [] ≡ get_or old (i * k) []) = at (i * k) (omega arith) (omega arith) some in
    let there : i < div_ceil (length old) k = begun (length old) k i p first.0 in (
      there,
      get_or-pack h new i below
          ∙ ap (λ run. hash_block h run) (same_run new old k i p some at (λ part. last_is_touched h e l i p u some part))
          ∙ sym (get_or-pack h old i there),
    )

pub SameDigests-next : (h : Hashing) (e : Edits) (l : ℕ) → 0 < per_block h → SameDigests h e l → SameDigests h e (suc l)
SameDigests-next h e l p s = record {
  same = λ i inside u.
      let k : ℕ = per_block h in
      let new : List (List ℕ) = digests_of h e.working l in
      let old : List (List ℕ) = digests_of h e.committed l in
      let new_next : digests_of h e.working (suc l) ≡ next h new = refl in
      let old_next : digests_of h e.committed (suc l) ≡ next h old = refl in
      let new_len = ap length new_next ∙ length-next h new in
      let old_len = ap length old_next ∙ length-next h old in
      let below : i < div_ceil (length new) k = omega arith in
      let block = same_block h e l i p s below u in
      let is_new : i < length (pack h new) = rw length-pack below in
      let is_old : i < length (pack h old) = rw length-pack block.0 in (
        omega (arith, block.0),
        ap (λ ds. get_or ds i []) new_next ∙ get_or-map h.digest (pack h new) i [] [] is_new
            ∙ ap h.digest block.1
            ∙ sym (ap (λ ds. get_or ds i []) old_next ∙ get_or-map h.digest (pack h old) i [] [] is_old),
      );
}
