-- The places of a slice.
use Rattle.std.proofs.Common.{ℕ, zero, suc, ◌+◌, ◌-◌, ◌*◌, ◌/◌, ◌<◌, ◌≤◌, ◌≡◌, Bool, true, false, refl, sym, ap, ◌∙◌, inl, inr, arith}
use Rattle.std.specs.Prelude.{◌⊎◌, ◌&&◌, nat_le, nat_lt}
use Rattle.std.proofs.Math.Nat.{div-le_self, div-mul-le_self, le-div_iff_mul-le, mul-div_left}
use Rattle.std.proofs.lemmas.Bool.{false≢true, cases_lt, leb-true, le-leb, ltb-true, lt-ltb}
use Rattle.verity_slice.specs.Slices.{IsIn}
use Rattle.verity_slice.specs.declared.run.Run.{Run}
use Rattle.verity_chain.specs.Table.{Table, IsTable, branching, height, path_index}
use Rattle.verity_chain.proofs.TableLaws.{path_index-suc, some_branch}
use Rattle.verity_slice_report.specs.Sliced.{IsOfSlice, IsBetween, is_of_slice, is_of_place}
use Rattle.verity_chain.specs.declared.place.Place.TheVariants as places

pub div_mono : (k a b : ℕ) → 0 < k → a ≤ b → a / k ≤ b / k
div_mono k a b some le = (le-div_iff_mul-le {k = k} {x = a / k} {y = b} some).1 (omega (arith, div-mul-le_self a k, le))

pub both : (a b : Bool) → (a && b) ≡ true → (a ≡ true) × (b ≡ true)
both true b e = (refl, e)
both false b e = absurd (false≢true e)

pub and_true : (a b : Bool) → a ≡ true → b ≡ true → (a && b) ≡ true
and_true true b e f = f
and_true false b e f = absurd (false≢true e)

module _ (t : Table) (ok : IsTable t) where
  -- a later data block has no earlier place above it
  pub path_mono : (a b r : ℕ) → a ≤ b → path_index t a r ≤ path_index t b r
  path_mono a b zero le = le
  path_mono a b (suc r) le =
      omega (
        arith,
        path_index-suc t a r,
        path_index-suc t b r,
        div_mono (branching t) (path_index t a r) (path_index t b r) (some_branch t ok) (path_mono a b r le),
      )

  pub path_low : (n r : ℕ) → path_index t n r ≤ n
  path_low n zero = omega arith
  path_low n (suc r) = omega (arith, path_index-suc t n r, div-le_self (path_index t n r) (branching t), path_low n r)

  -- the place above one of the slice is one of the slice
  pub parent_of_slice : (run : Run) (r i : ℕ) → IsOfSlice t run r i → IsOfSlice t run (suc r) (i / branching t)
  parent_of_slice run r i is = (is.0, is.1, path_index-suc t is.0 r ∙ ap (λ j. j / branching t) is.2)

  -- what lies between the places above two data blocks lies above one between them
  pub between : (a b r i : ℕ) → a ≤ b → path_index t a r ≤ i → i ≤ path_index t b r
      → (n : ℕ) × (a ≤ n) × (n ≤ b) × (path_index t n r ≡ i)
  between a b zero i le low high = (i, low, high, refl)
  between a b (suc r) i le low high =
      let k : ℕ = branching t in
      let above_a : path_index t a (suc r) ≡ path_index t a r / k = path_index-suc t a r in
      let above_b : path_index t b (suc r) ≡ path_index t b r / k = path_index-suc t b r in
      let first : i * k ≤ path_index t b r =
      (le-div_iff_mul-le {k = k} {x = i} {y = path_index t b r} (some_branch t ok)).0 (omega (arith, high, above_b)) in
      elim (cases_lt (i * k) (path_index t a r)) [
        | inl lt ↦
            let under : i ≤ path_index t a r / k =
            (le-div_iff_mul-le {k = k} {x = i} {y = path_index t a r} (some_branch t ok)).1 (omega (arith, lt)) in
            (a, omega arith, le, omega (arith, under, low, above_a))
        | inr ge ↦
            let at = between a b r (i * k) le (omega (arith, ge)) first in
            (at.0, at.1, at.2, path_index-suc t at.0 r ∙ ap (λ j. j / k) at.3 ∙ mul-div_left i (some_branch t ok))
      ]

  module _ (run : Run) (r i : ℕ) where
    -- the test says whether a place is one of the slice
    pub of_slice : is_of_slice t run r i ≡ true → IsOfSlice t run r i
    of_slice e =
        let some = both (nat_lt run.first run.end) _ e in
        let ends = both (nat_le (path_index t run.first r) i) _ some.1 in
        let less : run.first < run.end = ltb-true run.first run.end some.0 in
        let at = between run.first (run.end - 1) r i (omega (arith, less)) (leb-true _ _ ends.0) (leb-true _ _ ends.1) in
        (at.0, (at.1, omega (arith, at.2, less)), at.3)

    pub slice_of : IsOfSlice t run r i → is_of_slice t run r i ≡ true
    slice_of is =
        let less : run.first < run.end = omega (arith, is.1.0, is.1.1) in
        and_true (nat_lt run.first run.end) _ (lt-ltb run.first run.end less)
        (and_true (nat_le (path_index t run.first r) i) _
        (le-leb _ _ (omega (arith, path_mono run.first is.0 r is.1.0, is.2)))
        (le-leb _ _ (omega (arith, path_mono is.0 (run.end - 1) r (omega (arith, is.1.1)), is.2))))

-- the test is of numbers
pub between_test : (t : Table) (run : Run) (r i : ℕ) → IsBetween t run r i → is_of_slice t run r i ≡ true
between_test t run r i is = and_true (nat_lt run.first run.end) _ (lt-ltb run.first run.end is.some)
    (and_true (nat_le (path_index t run.first r) i) _ (le-leb _ _ is.first) (le-leb _ _ is.last))

pub test_between : (t : Table) (run : Run) (r i : ℕ) → is_of_slice t run r i ≡ true → IsBetween t run r i
test_between t run r i e =
    let some = both (nat_lt run.first run.end) _ e in
    let ends = both (nat_le (path_index t run.first r) i) _ some.1 in
    record { some = ltb-true run.first run.end some.0; first = leb-true _ _ ends.0; last = leb-true _ _ ends.1 }

pub hash_test : (t : Table) (run : Run) (l i : ℕ) → l < height t → IsBetween t run (suc l) i
    → is_of_place t run (places.Hash l i) ≡ true
hash_test t run l i low is = and_true (nat_lt l (height t)) _ (lt-ltb l (height t) low) (between_test t run (suc l) i is)

pub test_hash : (t : Table) (run : Run) (l i : ℕ) → is_of_place t run (places.Hash l i) ≡ true → (l < height t) × IsBetween t run (suc l) i
test_hash t run l i e =
    let parts = both (nat_lt l (height t)) _ e in (ltb-true l (height t) parts.0, test_between t run (suc l) i parts.1)
