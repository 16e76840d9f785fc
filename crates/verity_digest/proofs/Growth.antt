-- How levels change where the count grows, and what lies above a data block.
use Rattle.std.proofs.Common.{◌≡◌, ℕ, zero, suc, ◌+◌, ◌-◌, ◌*◌, ◌/◌, ◌^◌, ◌<◌, ◌≤◌, ⊎_elim, sym, ap, ◌∙◌, arith}
use Rattle.std.specs.List.{sum_by, range_with_len}
use Rattle.std.proofs.Math.Nat.{lt_of_mul-lt-mul_right, div-div-eq-div-mul, one-le-pow, pow-suc, pow-zero, one-mul}
use Rattle.std.proofs.lemmas.Bool.{cases_lt}
use Rattle.std.proofs.lemmas.List.Sums.{sum_by-cons}
use Rattle.verity_digest.specs.Shape.{row_len, level_len, level_count, blocks_of_levels, level_start, total, above}
use Rattle.verity_digest.proofs.Ceil.{IsCeil}
use Rattle.verity_digest.proofs.Numbers.{IsLevelCount-level_count}
use Rattle.verity_digest.proofs.Counts.{IsCeil-row_len, quotient_below}

ceil_le : (n m w a b : ℕ) → n ≤ m → IsCeil n w a → IsCeil m w b → a ≤ b
ceil_le n m w a b le p q =
    let l : a < suc b = lt_of_mul-lt-mul_right w (omega (arith, p.below, q.above)) in
    omega arith

pub row_len-mono : (k n m r : ℕ) → 0 < k → n ≤ m → row_len k n r ≤ row_len k m r
row_len-mono k n m r some le = ceil_le n m (k ^ r) (row_len k n r) (row_len k m r) le (IsCeil-row_len k n r some)
    (IsCeil-row_len k m r some)

pub level_count-mono : (k n m : ℕ) → 2 ≤ k → n ≤ m → level_count k n ≤ level_count k m
level_count-mono k n m two le =
    let low = IsLevelCount-level_count k n two in
    let high = IsLevelCount-level_count k m two in
    ⊎_elim
    (λ fewer. let below : k ^ level_count k m < n = low.least (level_count k m) fewer in absurd (omega (arith, high.enough)))
    (λ no. no)
    (cases_lt (level_count k m) (level_count k n))

sum_by-le : (f g : ℕ → ℕ) → ((i : ℕ) → f i ≤ g i) → (m n a : ℕ) → m ≤ n → sum_by f (range_with_len a m) ≤ sum_by g (range_with_len a n)
sum_by-le f g each zero n a le = omega arith
sum_by-le f g each (suc m) zero a le = absurd (omega arith)
sum_by-le f g each (suc m) (suc n) a le =
    omega (
      arith,
      sum_by-cons f a (range_with_len (a + 1) m),
      sum_by-cons g a (range_with_len (a + 1) n),
      each a,
      sum_by-le f g each m n (a + 1) (omega arith),
    )

pub blocks_of_levels-mono : (k n m l a b : ℕ) → 0 < k → n ≤ m → a ≤ b → blocks_of_levels k n l a ≤ blocks_of_levels k m l b
unfolding blocks_of_levels
blocks_of_levels-mono k n m l a b some le order =
    sum_by-le (level_len k n) (level_len k m) (λ i. row_len-mono k n m (suc i) some le) a b l order

pub level_start-mono : (k n m l : ℕ) → 2 ≤ k → n ≤ m → level_start k n l ≤ level_start k m l
level_start-mono k n m l two le =
    let more : level_count k n ≤ level_count k m = level_count-mono k n m two le in
    blocks_of_levels-mono k n m (suc l) (level_count k n - suc l) (level_count k m - suc l) (omega arith) le (omega arith)

pub total-mono : (k n m : ℕ) → 2 ≤ k → n ≤ m → total k n ≤ total k m
total-mono k n m two le = blocks_of_levels-mono k n m 0 (level_count k n) (level_count k m) (omega arith) le (level_count-mono k n m two le)

-- the block above a data block is one of its level
pub above_within : (k n l b : ℕ) → 0 < k → b < n → above k l b < level_len k n l
unfolding row_len
above_within k n l b some below = quotient_below n (k ^ suc l) b (one-le-pow (suc l) k some) below

pub above-zero : (k b : ℕ) → above k 0 b ≡ b / k
above-zero k b = ap (λ w. b / w) (pow-suc k 0 ∙ ap (λ p. p * k) (pow-zero k) ∙ one-mul k)

pub above-suc : (k l b : ℕ) → above k (suc l) b ≡ above k l b / k
above-suc k l b = ap (λ w. b / w) (pow-suc k (suc l)) ∙ sym (div-div-eq-div-mul b (k ^ suc l) k)
