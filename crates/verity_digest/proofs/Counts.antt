-- How many blocks the rows and levels of a tree have, and their sums.
use Rattle.std.proofs.Common.{◌≡◌, ℕ, zero, suc, ◌+◌, ◌-◌, ◌*◌, ◌/◌, ◌^◌, ◌<◌, ◌≤◌, ⊎_elim, refl, sym, ap, ◌∙◌, subst, arith}
use Rattle.std.specs.List.{sum_by, range_with_len}
use Rattle.std.specs.Int.{div_ceil}
use Rattle.std.proofs.Math.Nat.{one-le-pow, pow-zero, pow-suc, zero-add, mul-le-mul_left, add-mul}
use Rattle.std.proofs.lemmas.Nat.{div_below}
use Rattle.std.proofs.lemmas.Bool.{cases_lt}
use Rattle.std.proofs.lemmas.List.{map-id}
use Rattle.std.proofs.lemmas.List.FromFn.{sum_by-map-range_with_len_more}
use Rattle.std.proofs.lemmas.List.Sums.{sum_by-cons}
use Rattle.verity_digest.specs.Shape.{row_len, level_len, level_count, blocks_of_levels, level_start, place, total}
use Rattle.verity_digest.proofs.Ceil.{IsCeil, IsCeil-div_ceil, div_ceil-div_ceil, div_ceil-one, same_ceil}
use Rattle.verity_digest.proofs.Numbers.{IsLevelCount-level_count, level_below}

pub quotient_below : (n d i : ℕ) → 0 < d → i < n → i / d < div_ceil n d
quotient_below n d i some below =
    let up = IsCeil-div_ceil n d some in
    div_below i d (div_ceil n d) some (omega (arith, up.above))

pub row_len-zero : (k n : ℕ) → row_len k n 0 ≡ n
unfolding row_len
row_len-zero k n = ap (λ w. div_ceil n w) (pow-zero k) ∙ div_ceil-one n

pub row_len-suc : (k n r : ℕ) → 0 < k → row_len k n (suc r) ≡ div_ceil (row_len k n r) k
unfolding row_len
row_len-suc k n r some = ap (λ w. div_ceil n w) (pow-suc k r) ∙ sym (div_ceil-div_ceil n (k ^ r) k (one-le-pow r k some) some)

pub level_len-zero : (k n : ℕ) → 0 < k → level_len k n 0 ≡ div_ceil n k
level_len-zero k n some = row_len-suc k n 0 some ∙ ap (λ m. div_ceil m k) (row_len-zero k n)

pub IsCeil-row_len : (k n r : ℕ) → 0 < k → IsCeil n (k ^ r) (row_len k n r)
unfolding row_len
IsCeil-row_len k n r some = IsCeil-div_ceil n (k ^ r) (one-le-pow r k some)

-- the block that holds a digest of a row is one of the next row
pub row_len_above : (k n r i : ℕ) → 0 < k → i < row_len k n r → i / k < row_len k n (suc r)
row_len_above k n r i some below = rw (row_len-suc k n r some) (quotient_below (row_len k n r) k i some below)

-- one block is the end of the rows
pub row_len_top : (k n : ℕ) → 2 ≤ k → 0 < n → row_len k n (level_count k n) ≡ 1
row_len_top k n two some =
    let L : ℕ = level_count k n in
    let counted = IsLevelCount-level_count k n two in
    let w : 0 < k ^ L = one-le-pow L k (omega arith) in
    same_ceil n (k ^ L) (row_len k n L) 1 (IsCeil-row_len k n L (omega arith)) (record {
      above = omega (arith, counted.enough);
      below = omega arith;
    })

some_from_ceil : (n w c : ℕ) → 0 < n → IsCeil n w c → 0 < c
some_from_ceil n w zero more up = absurd (omega (arith, up.above))
some_from_ceil n w (suc c) more up = omega arith

-- no row is empty
pub row_len_some : (k n r : ℕ) → 0 < k → 0 < n → 0 < row_len k n r
row_len_some k n r some more = some_from_ceil n (k ^ r) (row_len k n r) more (IsCeil-row_len k n r some)

pub blocks_of_levels-more : (k n l m : ℕ) → blocks_of_levels k n l (m + 1) ≡ blocks_of_levels k n l m + level_len k n (l + m)
unfolding blocks_of_levels
blocks_of_levels-more k n l m =
    ap (λ ls. sum_by (level_len k n) ls) (sym (map-id (range_with_len l (m + 1))))
    ∙ sum_by-map-range_with_len_more (level_len k n) (λ x. x) l m (l + m) refl
    ∙ ap (λ ls. sum_by (level_len k n) ls + level_len k n (l + m)) (map-id (range_with_len l m))

pub blocks_of_levels-first : (k n l m : ℕ) → blocks_of_levels k n l (suc m) ≡ level_len k n l + blocks_of_levels k n (l + 1) m
unfolding blocks_of_levels
blocks_of_levels-first k n l m = sum_by-cons (level_len k n) l (range_with_len (l + 1) m)

pub blocks_of_levels-none : (k n l : ℕ) → blocks_of_levels k n l 0 ≡ 0
unfolding blocks_of_levels
blocks_of_levels-none k n l = refl

pub blocks_of_levels-le : (k n l m : ℕ) → blocks_of_levels k n l m ≤ blocks_of_levels k n 0 (l + m)
blocks_of_levels-le k n zero m = rw zero-add (omega arith)
blocks_of_levels-le k n (suc l) m =
    let here : blocks_of_levels k n l (suc m) ≤ blocks_of_levels k n 0 (l + suc m) = blocks_of_levels-le k n l (suc m) in
    let first : blocks_of_levels k n l (suc m) ≡ level_len k n l + blocks_of_levels k n (l + 1) m = blocks_of_levels-first k n l m in
    let same : l + suc m ≡ suc l + m = omega arith in
    let at : l + 1 ≡ suc l = omega arith in
    let P : ℕ → Type 0 = λ e. blocks_of_levels k n (l + 1) m ≤ blocks_of_levels k n 0 e in
    let Q : ℕ → Type 0 = λ e. blocks_of_levels k n e m ≤ blocks_of_levels k n 0 (suc l + m) in
    subst Q at (subst P same (omega arith))

first_levels_le : (k n t m L : ℕ) → m + t ≡ L → blocks_of_levels k n 0 m ≤ blocks_of_levels k n 0 L
first_levels_le k n zero m L e = (let same : m ≡ L = omega arith in let P : ℕ →
    Type 0 = λ j. blocks_of_levels k n 0 m ≤ blocks_of_levels k n 0 j in subst P same (omega arith))
first_levels_le k n (suc t) m L e =
    let next : blocks_of_levels k n 0 (m + 1) ≤ blocks_of_levels k n 0 L = first_levels_le k n t (m + 1) L (omega arith) in
    omega (arith, blocks_of_levels-more k n 0 m)

-- a level begins where the one above it ends
pub next_start : (k n l : ℕ) → suc l < level_count k n → level_start k n (suc l) + level_len k n (suc l) ≡ level_start k n l
next_start k n l below =
    let m : ℕ = level_count k n - suc (suc l) in
    let count : suc m ≡ level_count k n - suc l = omega arith in
    let at : suc l + 1 ≡ suc (suc l) = omega arith in
    let first : blocks_of_levels k n (suc l) (suc m) ≡ level_len k n (suc l) + blocks_of_levels k n (suc l + 1) m =
    blocks_of_levels-first k n (suc l) m in
    let whole : blocks_of_levels k n (suc l) (suc m) ≡ level_start k n l = ap (λ e. blocks_of_levels k n (suc l) e) count in
    let behind : blocks_of_levels k n (suc l + 1) m ≡ level_start k n (suc l) = ap (λ e. blocks_of_levels k n e m) at in
    omega arith

-- the top level comes first
pub top_start : (k n l : ℕ) → suc l ≡ level_count k n → level_start k n l ≡ 0
top_start k n l top =
    let none : level_count k n - suc l ≡ 0 = omega arith in
    ap (λ m. blocks_of_levels k n (suc l) m) none ∙ blocks_of_levels-none k n (suc l)

-- level 0 comes last
pub last_end : (k n : ℕ) → 0 < level_count k n → level_start k n 0 + level_len k n 0 ≡ total k n
last_end k n some =
    let count : suc (level_count k n - 1) ≡ level_count k n = omega arith in
    let first : blocks_of_levels k n 0 (suc (level_count k n - 1)) ≡ level_len k n 0 + blocks_of_levels k n (0 + 1)
    (level_count k n - 1) = blocks_of_levels-first k n 0 (level_count k n - 1) in
    let whole : blocks_of_levels k n 0 (suc (level_count k n - 1)) ≡ total k n = ap (λ m. blocks_of_levels k n 0 m) count in
    omega arith

starts_in_order_by : (k n t l : ℕ) → suc l + t < level_count k n →
    level_start k n (suc l + t) + level_len k n (suc l + t) ≤ level_start k n l
starts_in_order_by k n zero l below =
    let at : suc l + 0 ≡ suc l = omega arith in
    let Q : ℕ → Type 0 = λ m. level_start k n m + level_len k n m ≤ level_start k n l in
    let next = next_start k n l (omega arith) in
    subst Q (sym at) (omega arith)
starts_in_order_by k n (suc t) l below =
    let nearer : level_start k n (suc (suc l) + t) + level_len k n (suc (suc l) + t) ≤ level_start k n (suc l) =
    starts_in_order_by k n t (suc l) (omega arith) in
    let next = next_start k n l (omega arith) in
    let at : suc (suc l) + t ≡ suc l + suc t = omega arith in
    let Q : ℕ → Type 0 = λ m. level_start k n m + level_len k n m ≤ level_start k n l in
    subst Q at (omega arith)

-- a higher level ends before a lower one begins
pub starts_in_order : (k n l m : ℕ) → l < m → m < level_count k n → level_start k n m + level_len k n m ≤ level_start k n l
starts_in_order k n l m less below =
    let at : suc l + (m - suc l) ≡ m = omega arith in
    let Q : ℕ → Type 0 = λ j. level_start k n j + level_len k n j ≤ level_start k n l in
    subst Q at (starts_in_order_by k n (m - suc l) l (omega arith))

-- a level stands within the tree
pub level_within : (k n l : ℕ) → l < level_count k n → level_start k n l + level_len k n l ≤ total k n
level_within k n zero below = let end = last_end k n below in omega arith
level_within k n (suc l) below =
    let before = starts_in_order k n 0 (suc l) (omega arith) below in
    let end = last_end k n (omega arith) in
    omega arith

-- a block of a level that stands at p
pub record Placed (k n p : ℕ) : Type 0 where
  pub level : ℕ
  pub index : ℕ
  pub there : level < level_count k n
  pub within : index < level_len k n level
  pub at : place k n level index ≡ p

placed_from : (k n p t l : ℕ) → l + suc t ≡ level_count k n → p < level_start k n l + level_len k n l → Placed k n p
placed_from k n p zero l last below =
    let first : level_start k n l ≡ 0 = top_start k n l (omega arith) in
    record { level = l; index = p; there = omega arith; within = omega arith; at = omega arith }
placed_from k n p (suc t) l last below =
    ⊎_elim
    (λ higher. let next = next_start k n l (omega arith) in placed_from k n p t (suc l) (omega arith) (omega arith))
    (λ here. record { level = l; index = p - level_start k n l; there = omega arith; within = omega arith; at = omega arith })
    (cases_lt p (level_start k n l))

placed_in : (k n p L : ℕ) → L ≡ level_count k n → p < blocks_of_levels k n 0 L → Placed k n p
placed_in k n p zero same below = absurd (omega (arith, blocks_of_levels-none k n 0))
placed_in k n p (suc L) same below =
    let end = last_end k n (omega arith) in
    let P : ℕ → Type 0 = λ m. p < blocks_of_levels k n 0 m in
    let all : p < total k n = subst P same below in
    placed_from k n p L 0 (omega arith) (omega arith)

-- each place of the tree is that of a block of a level
pub placed : (k n p : ℕ) → p < total k n → Placed k n p
placed k n p below = placed_in k n p (level_count k n) refl below

-- a level has at most half as many blocks as the one below, if that one has two or more
half : (k a c : ℕ) → 8 ≤ k → 2 ≤ a → IsCeil a k c → c * 2 ≤ a
half k a zero wide two up = omega arith
half k a (suc zero) wide two up = omega arith
half k a (suc (suc c)) wide two up =
    let more : c * 8 ≤ c * k = mul-le-mul_left c wide in
    let parted : (suc (suc c)) * k ≡ c * k + 2 * k = (let e : suc (suc c) ≡ c + 2 = omega arith in ap (λ x. x * k) e ∙ add-mul c 2 k) in
    omega (arith, up.below)

two_from_ceil : (n w c : ℕ) → w < n → IsCeil n w c → 2 ≤ c
two_from_ceil n w zero more up = absurd (omega (arith, up.above))
two_from_ceil n w (suc zero) more up = absurd (omega (arith, up.above))
two_from_ceil n w (suc (suc c)) more up = omega arith

-- below a level there are two blocks or more
pub row_len_two : (k n r : ℕ) → 2 ≤ k → r < level_count k n → 2 ≤ row_len k n r
row_len_two k n r two below = two_from_ceil n (k ^ r) (row_len k n r) (level_below k n r two below) (IsCeil-row_len k n r (omega arith))

pub row_len-half : (k n r : ℕ) → 8 ≤ k → r < level_count k n → row_len k n (suc r) * 2 ≤ row_len k n r
row_len-half k n r wide below =
    let some : 0 < k = omega arith in
    rw (row_len-suc k n r some) (half k (row_len k n r) (div_ceil (row_len k n r) k) wide (row_len_two k n r (omega arith) below)
    (IsCeil-div_ceil (row_len k n r) k (omega arith)))

-- the levels from l on have at most twice the blocks of level l
blocks_from_le : (k n t l : ℕ) → 8 ≤ k → l + suc t ≡ level_count k n → blocks_of_levels k n l (suc t) ≤ level_len k n l * 2
blocks_from_le k n zero l wide last = omega (arith, blocks_of_levels-first k n l 0, blocks_of_levels-none k n (l + 1))
blocks_from_le k n (suc t) l wide last =
    let at : l + 1 ≡ suc l = omega arith in
    let same : level_len k n (l + 1) ≡ level_len k n (suc l) = ap (level_len k n) at in
    let rest : blocks_of_levels k n (l + 1) (suc t) ≤ level_len k n (l + 1) * 2 = blocks_from_le k n t (l + 1) wide (omega arith) in
    let halved : level_len k n (suc l) * 2 ≤ level_len k n l = row_len-half k n (suc l) wide (omega arith) in
    omega (arith, blocks_of_levels-first k n l (suc t))

-- a tree has no more hash blocks than there are data blocks
total_by : (k n L : ℕ) → 8 ≤ k → L ≡ level_count k n → blocks_of_levels k n 0 L ≤ n
total_by k n zero wide same = omega (arith, blocks_of_levels-none k n 0)
total_by k n (suc L) wide same =
    let all : blocks_of_levels k n 0 (suc L) ≤ level_len k n 0 * 2 = blocks_from_le k n L 0 wide (omega arith) in
    let halved : level_len k n 0 * 2 ≤ row_len k n 0 = row_len-half k n 0 wide (omega arith) in
    omega (arith, row_len-zero k n)

pub total_most : (k n : ℕ) → 8 ≤ k → total k n ≤ n
total_most k n wide = total_by k n (level_count k n) wide refl

-- no levels of the tree have more
pub part_most : (k n l m : ℕ) → 8 ≤ k → l + m ≤ level_count k n → blocks_of_levels k n l m ≤ n
part_most k n l m wide within =
    let wider : blocks_of_levels k n l m ≤ blocks_of_levels k n 0 (l + m) = blocks_of_levels-le k n l m in
    let longer : blocks_of_levels k n 0 (l + m) ≤ total k n =
    first_levels_le k n (level_count k n - (l + m)) (l + m) (level_count k n) (omega arith) in
    omega (arith, total_most k n wide)
