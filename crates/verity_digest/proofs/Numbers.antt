-- Powers and numbers of levels.
use Rattle.std.proofs.Common.{◌≡◌, ℕ, zero, suc, ◌+◌, ◌*◌, ◌^◌, ◌<◌, ◌≤◌, ⊎_elim, sym, subst, arith, below_more, leb}
use Rattle.std.proofs.Math.Nat.{pow-suc, pow-le-pow_left, pow-le-pow_right, mul-le-mul_left, one-le-pow, zero-add}
use Rattle.std.proofs.lemmas.Bool.{cases_lt, cond-true, cond-false, le-leb, lt-leb}
use Rattle.verity_digest.specs.Tree.{IsLevelCount}
use Rattle.verity_digest.specs.Shape.{least_level, level_count}
use Rattle.verity_digest.proofs.Levels.{same_level_count}

-- a number of levels is the least one that is found
least_level_is : (k n f l : ℕ) → n ≤ k ^ (l + f) → ((m : ℕ) → m < l → k ^ m < n) → IsLevelCount k n (least_level k n f l)
unfolding least_level
least_level_is k n zero l far least = record { enough = subst (λ m. n ≤ k ^ m) (let e : l + 0 ≡ l = omega arith in e) far; least = least }
least_level_is k n (suc f) l far least =
    let P : ℕ → Type 0 = λ found. IsLevelCount k n found in
    ⊎_elim
    (λ short. subst P (sym (cond-false (leb n (k ^ l)) l (least_level k n f (l + 1)) (lt-leb n (k ^ l) short)))
    (least_level_is k n f (l + 1)
    (subst (λ m. n ≤ k ^ m) (let e : l + suc f ≡ l + 1 + f = omega arith in e) far)
    (below_more (λ m. k ^ m < n) l least short)))
    (λ reached. subst P (sym (cond-true (leb n (k ^ l)) l (least_level k n f (l + 1)) (le-leb n (k ^ l) reached)))
    (record { enough = reached; least = least }))
    (cases_lt (k ^ l) n)

le-pow_self : (k n : ℕ) → 2 ≤ k → n ≤ k ^ n
le-pow_self k zero two = omega arith
le-pow_self k (suc n) two =
    let here : n ≤ k ^ n = le-pow_self k n two in
    let some : 1 ≤ k ^ n = one-le-pow n k (omega arith) in
    let twice : k ^ n * 2 ≤ k ^ n * k = mul-le-mul_left (k ^ n) two in
    rw pow-suc (omega arith)

pub IsLevelCount-level_count : (k n : ℕ) → 2 ≤ k → IsLevelCount k n (level_count k n)
unfolding level_count
IsLevelCount-level_count k n two =
    least_level_is k n n 0 (rw zero-add (le-pow_self k n two)) (λ m below. absurd (omega arith))

-- a number of levels is that one
pub level_count_is : (k n L : ℕ) → 2 ≤ k → IsLevelCount k n L → L ≡ level_count k n
level_count_is k n L two counted = same_level_count k n L (level_count k n) counted (IsLevelCount-level_count k n two)

-- a block of a level that is there has fewer data blocks below each of its slots than there are
pub level_below : (k n l : ℕ) → 2 ≤ k → l < level_count k n → k ^ l < n
level_below k n l two below = let counted = IsLevelCount-level_count k n two in counted.least l below

-- the number of levels, from the two powers about the count
pub level_count_between : (k n L : ℕ) → 2 ≤ k → k ^ L < n → n ≤ k ^ suc L → level_count k n ≡ suc L
level_count_between k n L two low high =
    let least : (l : ℕ) → l < suc L → k ^ l < n = λ l below. let order : k ^ l ≤ k ^ L =
    pow-le-pow_right (omega arith) (omega arith) in omega arith in
    sym (level_count_is k n (suc L) two (record { enough = high; least = least }))

-- a power of a larger base below a power has a smaller exponent
pub exponent_below : (b k l m : ℕ) → 1 ≤ b → b ≤ k → k ^ l < b ^ m → l < m
exponent_below b k l m some base small =
    ⊎_elim (λ below. below)
    (λ above.
    let wide : b ^ m ≤ b ^ l = pow-le-pow_right some above in
    let more : b ^ l ≤ k ^ l = pow-le-pow_left base l in
    absurd (omega arith))
    (cases_lt l m)

-- m levels are the most for so many data blocks
pub level_count_most : (b k n m : ℕ) → 2 ≤ b → b ≤ k → n ≤ b ^ m → level_count k n ≤ m
level_count_most b k n m two base few =
    let counted = IsLevelCount-level_count k n (omega arith) in
    ⊎_elim
    (λ more.
    let low : k ^ m < n = counted.least m more in
    let grows : b ^ m ≤ k ^ m = pow-le-pow_left base m in
    absurd (omega arith))
    (λ most. most)
    (cases_lt m (level_count k n))
