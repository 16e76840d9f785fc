-- How many blocks of each row the first data blocks have above them.
use Rattle.std.proofs.Common.{suc, zero, arith, ℕ, ◌+◌, ◌-◌, ◌*◌, ◌/◌, ◌%◌, ◌^◌, ◌<◌, ◌≤◌, ◌≡◌, ◌≢◌, List, sym, ap, ◌∙◌}
use Rattle.std.proofs.lemmas.Nat.{mod_below, div-add-mod', le-div, div_below}
use Rattle.std.proofs.Math.Nat.{add-mul, mul-le-mul_left, lt_of_mul-lt-mul_right, one-le-pow}
use Rattle.verity_digest.specs.Shape as shape
use Rattle.verity_digest.proofs.Ceil.{IsCeil, same_ceil}
use Rattle.verity_digest.proofs.Counts.{row_len-zero, IsCeil-row_len}
use Rattle.verity_profile.proofs.Bounds.{block_count_high}
use Rattle.verity_chain.specs.Table.{Table, IsTable, branching, height, row_len, path_index}
use Rattle.verity_chain.proofs.TableLaws.{path_index-suc, some_branch}
use Rattle.verity_report.specs.Descent.{Known, AreSeenTo, seen_in}

-- the next one up is the quotient, or one more
ceil_or : (n d c : ℕ) → 0 < d → IsCeil n d c → c ≢ n / d → c ≡ suc (n / d)
ceil_or n d c some is isnt =
    let low = mod_below n d some in
    let split : n / d * d + n % d ≡ n = div-add-mod' n d in
    let two : (n / d + 2) * d ≡ n / d * d + 2 * d = add-mul (n / d) 2 d in
    let one : (c + 1) * d ≡ c * d + 1 * d = add-mul c 1 d in
    let up : c < n / d + 2 = lt_of_mul-lt-mul_right d (omega (arith, is.below, low, split, two)) in
    let down : n / d < c + 1 = lt_of_mul-lt-mul_right d (omega (arith, is.above, split, one, some)) in
    omega (arith, up, down, isnt)

-- of one more it is the quotient and one
ceil_more : (n d : ℕ) → 0 < d → IsCeil (suc n) d (suc (n / d))
ceil_more n d some =
    let low = mod_below n d some in
    let split : n / d * d + n % d ≡ n = div-add-mod' n d in
    let turn : suc (n / d) ≡ n / d + 1 = omega arith in
    let one : suc (n / d) * d ≡ n / d * d + 1 * d = ap (λ x. x * d) turn ∙ add-mul (n / d) 1 d in
    record { above = omega (arith, low, split, one); below = omega (arith, split, one) }

module _ (t : Table) (ok : IsTable t) where
  -- before the first data block there is none
  pub counts_none : (r : ℕ) → shape.row_len (branching t) 0 r ≡ 0
  counts_none r =
      let k : ℕ = branching t in
      let some : 0 < branching t ^ r = one-le-pow r (branching t) (some_branch t ok) in
      same_ceil 0 (branching t ^ r) (shape.row_len (branching t) 0 r) 0 (IsCeil-row_len (branching t) 0 r (some_branch t ok))
      (record { above = omega arith; below = omega (arith, some) })

  -- with a data block there are its own and those before
  pub counts_more : (n r : ℕ) → shape.row_len (branching t) (suc n) r ≡ suc (path_index t n r)
  counts_more n zero = row_len-zero (branching t) (suc n)
  counts_more n (suc l) =
      let some : 0 < branching t ^ suc l = one-le-pow (suc l) (branching t) (some_branch t ok) in
      same_ceil (suc n) (branching t ^ suc l) (shape.row_len (branching t) (suc n) (suc l)) (suc (path_index t n (suc l)))
      (IsCeil-row_len (branching t) (suc n) (suc l) (some_branch t ok)) (ceil_more n (branching t ^ suc l) some)

  -- the next block of a row is above the data block, or the last one is
  pub counts_or : (n l : ℕ) → shape.row_len (branching t) n (suc l) ≢ path_index t n (suc l) →
      shape.row_len (branching t) n (suc l) ≡ suc (path_index t n (suc l))
  counts_or n l isnt =
      let some : 0 < branching t ^ suc l = one-le-pow (suc l) (branching t) (some_branch t ok) in
      ceil_or n (branching t ^ suc l) (shape.row_len (branching t) n (suc l)) some
      (IsCeil-row_len (branching t) n (suc l) (some_branch t ok)) isnt

  -- no row has more blocks than there are data blocks
  pub row_few : (r : ℕ) → row_len t r ≤ 2 ^ 40
  row_few r =
      let some : 0 < branching t ^ r = one-le-pow r (branching t) (some_branch t ok) in
      let is = IsCeil-row_len (branching t) t.data_blocks r (some_branch t ok) in
      let wide : t.data_blocks * 1 ≤ t.data_blocks * branching t ^ r = mul-le-mul_left t.data_blocks some in
      let more : (t.data_blocks + 1) * branching t ^ r ≡ t.data_blocks * branching t ^ r + 1 * branching t ^ r =
      add-mul t.data_blocks 1 (branching t ^ r) in
      let low : row_len t r < t.data_blocks + 1 = lt_of_mul-lt-mul_right (branching t ^ r) (omega (arith, is.below, wide, more)) in
      omega (arith, low, block_count_high t.data_blocks ok.blocks)

  -- data blocks with one parent have one path
  pub same_parent : (n c : ℕ) → c < branching t - n % branching t → (n + c) / branching t ≡ n / branching t
  same_parent n c few =
      let k : ℕ = branching t in
      let some = some_branch t ok in
      let split : n / branching t * branching t + n % branching t ≡ n = div-add-mod' n (branching t) in
      let turn : suc (n / branching t) ≡ n / branching t + 1 = omega arith in
      let one : suc (n / branching t) * branching t ≡ n / branching t * branching t + 1 * branching t =
      ap (λ x. x * branching t) turn ∙ add-mul (n / branching t) 1 (branching t) in
      let low : n / branching t ≤ (n + c) / branching t = le-div (n / branching t) (n + c) (branching t) some (omega (arith, split)) in
      let high : (n + c) / branching t < suc (n / branching t) =
      div_below (n + c) (branching t) (suc (n / branching t)) some (omega (arith, split, one, few)) in
      omega (arith, low, high)

  pub same_path : (n c : ℕ) → c < branching t - n % branching t → (l : ℕ) → path_index t (n + c) (suc l) ≡ path_index t n (suc l)
  same_path n c few zero = path_index-suc t (n + c) 0 ∙ same_parent n c few ∙ sym (path_index-suc t n 0)
  same_path n c few (suc l) =
      path_index-suc t (n + c) (suc l) ∙ ap (λ i. i / branching t) (same_path n c few l) ∙ sym (path_index-suc t n (suc l))

  -- nothing was looked at
  pub seen_none : (rows : List Known) → ((r : ℕ) → r ≤ height t → seen_in rows r ≡ 0) → AreSeenTo t 0 rows
  seen_none rows none r low = none r low ∙ sym (counts_none r)

  -- a run of data blocks with one parent more
  pub seen_run : (n c : ℕ) (rows : List Known) → c < branching t - n % branching t → seen_in rows 0 ≡ n + suc c →
      ((l : ℕ) → l < height t → seen_in rows (suc l) ≡ suc (path_index t n (suc l))) → AreSeenTo t (n + suc c) rows
  seen_run n c rows few here above zero low = here ∙ sym (row_len-zero (branching t) (n + suc c))
  seen_run n c rows few here above (suc l) low =
      let turn : n + suc c ≡ suc (n + c) = omega arith in
      let at : l < height t = omega (arith, low) in
      above l at ∙ ap (λ i. suc i) (sym (same_path n c few l)) ∙ sym (counts_more (n + c) (suc l))
      ∙ ap (λ m. shape.row_len (branching t) m (suc l)) (sym turn)
