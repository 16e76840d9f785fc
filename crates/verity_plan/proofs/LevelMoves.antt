-- Lemmas on levels that are moved.
use Rattle.std.proofs.Common.{◌≡◌, Result, Ok, Err, take, replicate, ℕ, ◌+◌, ◌-◌, ◌<◌, ◌≤◌, List, [], length, get_or, ⊎_elim, inl}
use Rattle.std.proofs.Common.{inr, sym, ap, ◌∙◌, subst, arith}
use Rattle.std.specs.Prelude.{OnOk}
use Rattle.std.proofs.lemmas.List.{get_or_append_left, get_or-take, length-take, length-append, length-replicate}
use Rattle.verity_store.specs.Blocks.{resized, ResizedToward}
use Rattle.verity_profile.specs.Profile.{zero_block}
use Rattle.verity_plan.specs.Levels.{KeepsFront}
use Rattle.std.proofs.lemmas.Bool.{cases_lt}
use Rattle.verity_geometry.specs.Geometry.{Shape, IsShape, digests_per_block, levels_of, len_of, start_of}
use Rattle.verity_geometry.specs.Laws.{Grows}
use Rattle.verity_geometry.proofs.OfShape.{starts_rise}
use Rattle.verity_digest.proofs.Counts.{starts_in_order}
use Rattle.verity_store.specs.Moves.{IsMoved, ChangesWithin}

pub on_ok : {T E : Type 0} (r : Result T E) (P Q : Type 0) → (P → Q) → OnOk r P → OnOk r Q
on_ok (Ok x) P Q f h = f h
on_ok (Err e) P Q f h = tt

pub get_or-resized : (size n : ℕ) (xs : List (List ℕ)) (q : ℕ) → q < n → q < length xs → get_or (resized size n xs) q [] ≡ get_or xs q []
get_or-resized size n xs q a b =
    let front : q < length (take n xs) = omega (arith, length-take n xs) in
    get_or_append_left (take n xs) (replicate (n - length xs) (zero_block size)) [] q front ∙ get_or-take n xs q [] a

-- level n of the smaller tree is moved away from the front, when those below it are
pub moved_apart : (first : ℕ) (small large : Shape) (n : ℕ) (old now new : List (List ℕ)) → IsShape small → Grows small large →
    n < levels_of small
    → ((m i : ℕ) → m < n → m < levels_of small → i < len_of small m →
    get_or now (first + start_of large m + i) [] ≡ get_or old (first + start_of small m + i) [])
    → ((m i : ℕ) → n ≤ m → m < levels_of small → i < len_of small m →
    get_or now (first + start_of small m + i) [] ≡ get_or old (first + start_of small m + i) [])
    → IsMoved (first + start_of small n) (first + start_of large n) (len_of small n) now new
    → ChangesWithin (first + start_of large n) (len_of small n) now new
    → (m i : ℕ) → m < n + 1 → m < levels_of small → i < len_of small m →
    get_or new (first + start_of large m + i) [] ≡ get_or old (first + start_of small m + i) []
moved_apart first small large n old now new ok grown there moved rest run others m i before below inside =
    ⊎_elim
    (λ less.
    let wide = (starts_rise small large ok grown).lengths n in
    let more = (starts_rise small large ok grown).levels in
    let order = starts_in_order (digests_per_block large) large.blocks m n less (omega arith) in
    let out : first + start_of large n + len_of small n ≤ first + start_of large m + i = omega arith in
    others.1 (first + start_of large m + i) (inr out) ∙ moved m i less below inside)
    (λ g.
    let is : m ≡ n = omega arith in
    let same : i < len_of small n = subst (λ (a : ℕ). i < len_of small a) is inside in
    ap (λ a. get_or new (first + start_of large a + i) []) is ∙ run i same ∙ rest n i (omega arith) there same
    ∙ ap (λ a. get_or old (first + start_of small a + i) []) (sym is))
    (cases_lt m n)

pub rest_apart : (first : ℕ) (small large : Shape) (n : ℕ) (old now new : List (List ℕ)) → IsShape small → Grows small large →
    n < levels_of small
    → ((m i : ℕ) → n ≤ m → m < levels_of small → i < len_of small m →
    get_or now (first + start_of small m + i) [] ≡ get_or old (first + start_of small m + i) [])
    → ChangesWithin (first + start_of large n) (len_of small n) now new
    → (m i : ℕ) → n + 1 ≤ m → m < levels_of small → i < len_of small m →
    get_or new (first + start_of small m + i) [] ≡ get_or old (first + start_of small m + i) []
rest_apart first small large n old now new ok grown there rest others m i behind below inside =
    let order = starts_in_order (digests_per_block small) small.blocks n m (omega arith) below in
    let rise = (starts_rise small large ok grown).starts n in
    let out : first + start_of small m + i < first + start_of large n = omega arith in
    others.1 (first + start_of small m + i) (inl out) ∙ rest m i (omega arith) below inside

-- level n of the smaller tree is moved to the front, when those above it are
pub moved_together : (first : ℕ) (small large : Shape) (n : ℕ) (old now new : List (List ℕ)) → IsShape small → Grows small large →
    n < levels_of small
    → ((m i : ℕ) → n + 1 ≤ m → m < levels_of small → i < len_of small m →
    get_or now (first + start_of small m + i) [] ≡ get_or old (first + start_of large m + i) [])
    → ((m i : ℕ) → m < n + 1 → m < levels_of small → i < len_of small m →
    get_or now (first + start_of large m + i) [] ≡ get_or old (first + start_of large m + i) [])
    → IsMoved (first + start_of large n) (first + start_of small n) (len_of small n) now new
    → ChangesWithin (first + start_of small n) (len_of small n) now new
    → (m i : ℕ) → n ≤ m → m < levels_of small → i < len_of small m →
    get_or new (first + start_of small m + i) [] ≡ get_or old (first + start_of large m + i) []
moved_together first small large n old now new ok grown there moved rest run others m i from below inside =
    ⊎_elim
    (λ less.
    let order = starts_in_order (digests_per_block small) small.blocks n m less below in
    let out : first + start_of small m + i < first + start_of small n = omega arith in
    others.1 (first + start_of small m + i) (inl out) ∙ moved m i (omega arith) below inside)
    (λ g.
    let is : m ≡ n = omega arith in
    let same : i < len_of small n = subst (λ (a : ℕ). i < len_of small a) is inside in
    ap (λ a. get_or new (first + start_of small a + i) []) is ∙ run i same ∙ rest n i (omega arith) there same
    ∙ ap (λ a. get_or old (first + start_of large a + i) []) (sym is))
    (cases_lt n m)

pub rest_together : (first : ℕ) (small large : Shape) (n : ℕ) (old now new : List (List ℕ)) → IsShape small → Grows small large →
    n < levels_of small
    → ((m i : ℕ) → m < n + 1 → m < levels_of small → i < len_of small m →
    get_or now (first + start_of large m + i) [] ≡ get_or old (first + start_of large m + i) [])
    → ChangesWithin (first + start_of small n) (len_of small n) now new
    → (m i : ℕ) → m < n → m < levels_of small → i < len_of small m →
    get_or new (first + start_of large m + i) [] ≡ get_or old (first + start_of large m + i) []
rest_together first small large n old now new ok grown there rest others m i before below inside =
    let more = (starts_rise small large ok grown).levels in
    let order = starts_in_order (digests_per_block large) large.blocks m n before (omega arith) in
    let wide = (starts_rise small large ok grown).lengths n in
    let rise = (starts_rise small large ok grown).starts n in
    let out : first + start_of small n + len_of small n ≤ first + start_of large m + i = omega arith in
    others.1 (first + start_of large m + i) (inr out) ∙ rest m i (omega arith) below inside

-- cutting or growing behind the first blocks keeps them
pub KeepsFront-resized : (size count first : ℕ) (old new : List (List ℕ)) → first ≤ length old → first ≤ count →
    ResizedToward size count old new → KeepsFront first old new
KeepsFront-resized size count first old new there fits r =
    let m : ℕ = r.0 in
    let low = r.1 in
    let long : length (resized size m old) ≡ m =
    omega (
      arith,
      length-append (take m old) (replicate (m - length old) (zero_block size)),
      length-take m old,
      length-replicate {A = List ℕ} (m - length old) (zero_block size),
    ) in
    let len : length new ≡ m = ap length r.3 ∙ long in
    record {
      len = omega arith;
      each = λ q below. let a : q < m = omega arith in let b : q < length old = omega arith in ap (λ xs. get_or xs q []) r.3
          ∙ get_or-resized size m old q a b;
    }

pub KeepsFront-then : (first : ℕ) (old now new : List (List ℕ)) → KeepsFront first old now → KeepsFront first now new →
    KeepsFront first old new
KeepsFront-then first old now new a b = record { len = b.len; each = λ q below. b.each q below ∙ a.each q below }

-- what changes only behind the first blocks keeps them
pub KeepsFront-within : (first start count : ℕ) (old new : List (List ℕ)) → first ≤ length old → first ≤ start →
    ChangesWithin start count old new → KeepsFront first old new
KeepsFront-within first start count old new there low c =
    let len = c.0 in
    record { len = omega arith; each = λ q below. let out : q < start = omega arith in c.1 q (inl out) }
