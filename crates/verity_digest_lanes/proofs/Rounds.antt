-- The operations on vectors, a lane at a time, and the window of words of a lane.
use Rattle.std.proofs.Common.{◌≡◌, ℕ, ◌+◌, ◌-◌, ◌*◌, ◌/◌, ◌%◌, ◌^◌, ◌<◌, List, [], ◌∙◌, length, replicate, slice_index, slice_set}
use Rattle.std.proofs.Common.{map, bit_or, bit_xor, bit_and, arith, refl, sym, ap, ap₂}
use Rattle.std.proofs.lemmas.Simd.{get_or-zip2, length-zip2, get_or-replicate, length-replicate, get_or-chunk}
use Rattle.std.proofs.lemmas.Simd.{Each1-get_or, below_from_Fits}
use Rattle.std.proofs.lemmas.List.{get_or-map, map-set, length-map}
use Rattle.std.specs.Simd.Lanes.{Each1, zip2}
use mir.Val.{bits, Fits}
use Rattle.std.specs.Int.{Width, w32, w64, rotate_right, bit_not}
use Rattle.sha2.specs.Sha256.{maj, word_at}
use Rattle.sha2.specs.Sha512 as wide
use Rattle.verity_digest_lanes.specs.Lanes.{lane_at, window_of, piece_at}
use Rattle.verity_digest_lanes.proofs.ChMaj.{maj_short}

-- a lane's word has the lane's bits
pub lane_lt : (w : Width) (xs : List ℕ) (n j : ℕ) → length xs ≡ n → Each1 (Fits w) xs → j < n → slice_index xs j < 2 ^ bits w
lane_lt w xs n j lx fits h = Each1-get_or (λ (x : ℕ). x < 2 ^ bits w) xs j 0 (omega arith) (below_from_Fits w xs fits)

-- an operator on two vectors of n lanes
pub zip2_at : (f : ℕ → ℕ → ℕ) (xs ys : List ℕ) (n j : ℕ) → length xs ≡ n → length ys ≡ n → j < n →
    slice_index (zip2 f xs ys) j ≡ f (slice_index xs j) (slice_index ys j)
zip2_at f xs ys n j lx ly h = get_or-zip2 f xs ys j 0 0 0 (omega arith) (omega arith)

pub zip2_length : (f : ℕ → ℕ → ℕ) (xs ys : List ℕ) (n : ℕ) → length xs ≡ n → length ys ≡ n → length (zip2 f xs ys) ≡ n
zip2_length f xs ys n lx ly = length-zip2 f xs ys (lx ∙ sym ly) ∙ lx

-- an operator on a vector and a splat
pub splat_at : (f : ℕ → ℕ → ℕ) (xs : List ℕ) (n j y : ℕ) → length xs ≡ n → j < n →
    slice_index (zip2 f xs (replicate n y)) j ≡ f (slice_index xs j) y
splat_at f xs n j y lx h = zip2_at f xs (replicate n y) n j lx (length-replicate n y) h
    ∙ ap (f (slice_index xs j)) (get_or-replicate n j y 0 h)

pub splat_length : (f : ℕ → ℕ → ℕ) (xs : List ℕ) (n y : ℕ) → length xs ≡ n → length (zip2 f xs (replicate n y)) ≡ n
splat_length f xs n y lx = zip2_length f xs (replicate n y) n lx (length-replicate n y)

-- two shifts and an or, of words of b bits
shifts_or : (b n k m : ℕ) (xs : List ℕ) (j : ℕ) → length xs ≡ n → j < n
    → slice_index (zip2 bit_or (zip2 (λ x m. x / 2 ^ m) xs (replicate n k)) (zip2 (λ x m. x * 2 ^ m % 2 ^ b) xs (replicate n m))) j
    ≡ bit_or (slice_index xs j / 2 ^ k) (slice_index xs j * 2 ^ m % 2 ^ b)
shifts_or b n k m xs j lx h =
    let r : List ℕ = zip2 (λ x m. x / 2 ^ m) xs (replicate n k) in
    let l : List ℕ = zip2 (λ x m. x * 2 ^ m % 2 ^ b) xs (replicate n m) in
    zip2_at bit_or r l n j (splat_length _ xs n k lx) (splat_length _ xs n m lx) h
    ∙ ap₂ bit_or (splat_at _ xs n j k lx h) (splat_at _ xs n j m lx h)

-- they are a rotation
pub shifts_rotate : (n k : ℕ) → 0 < k → k < 32 → (xs : List ℕ) → length xs ≡ n → (j : ℕ) → j < n
    → slice_index (zip2 bit_or (zip2 (λ x m. x / 2 ^ m) xs (replicate n k)) (zip2 (λ x m. x * 2 ^ m % 2 ^ 32) xs (replicate n (32 - k)))) j
    ≡ rotate_right w32 (slice_index xs j) k
shifts_rotate n k low high xs lx j h =
    let right : k % 32 ≡ k = omega arith in
    let left : (32 - k) % 32 ≡ 32 - k = omega arith in
    shifts_or 32 n k (32 - k) xs j lx h ∙ rw (right, left) refl

pub wide_shifts_rotate : (n k : ℕ) → 0 < k → k < 64 → (xs : List ℕ) → length xs ≡ n → (j : ℕ) → j < n
    → slice_index (zip2 bit_or (zip2 (λ x m. x / 2 ^ m) xs (replicate n k)) (zip2 (λ x m. x * 2 ^ m % 2 ^ 64) xs (replicate n (64 - k)))) j
    ≡ rotate_right w64 (slice_index xs j) k
wide_shifts_rotate n k low high xs lx j h =
    let right : k % 64 ≡ k = omega arith in
    let left : (64 - k) % 64 ≡ 64 - k = omega arith in
    shifts_or 64 n k (64 - k) xs j lx h ∙ rw (right, left) refl

pub ch_at : (w : Width) (xs ys zs : List ℕ) (n j : ℕ) → length xs ≡ n → length ys ≡ n → length zs ≡ n → j < n
    → slice_index (zip2 bit_xor (zip2 bit_and xs ys) (zip2 bit_and (map (bit_not w) xs) zs)) j ≡ bit_xor
    (bit_and (slice_index xs j) (slice_index ys j)) (bit_and (bit_not w (slice_index xs j)) (slice_index zs j))
ch_at w xs ys zs n j lx ly lz h =
    let lm : length (map (bit_not w) xs) ≡ n = length-map xs (bit_not w) ∙ lx in
    zip2_at bit_xor (zip2 bit_and xs ys) (zip2 bit_and (map (bit_not w) xs) zs) n j (zip2_length bit_and xs ys n lx ly)
    (zip2_length bit_and (map (bit_not w) xs) zs n lm lz) h
    ∙ ap₂ bit_xor (zip2_at bit_and xs ys n j lx ly h)
    (zip2_at bit_and (map (bit_not w) xs) zs n j lm lz h
    ∙ ap (λ (a : ℕ). bit_and a (slice_index zs j)) (get_or-map (bit_not w) xs j 0 0 (omega arith)))

pub maj_at : (xs ys zs : List ℕ) (n j : ℕ) → length xs ≡ n → length ys ≡ n → length zs ≡ n → j < n
    → slice_index (zip2 bit_xor ys (zip2 bit_and (zip2 bit_xor xs ys) (zip2 bit_xor ys zs))) j ≡ maj (slice_index xs j)
    (slice_index ys j) (slice_index zs j)
maj_at xs ys zs n j lx ly lz h =
    let a : List ℕ = zip2 bit_xor xs ys in
    let b : List ℕ = zip2 bit_xor ys zs in
    let la : length a ≡ n = zip2_length bit_xor xs ys n lx ly in
    let lb : length b ≡ n = zip2_length bit_xor ys zs n ly lz in
    zip2_at bit_xor ys (zip2 bit_and a b) n j ly (zip2_length bit_and a b n la lb) h
    ∙ ap (bit_xor (slice_index ys j)) (zip2_at bit_and a b n j la lb h ∙ ap₂ bit_and (zip2_at bit_xor xs ys n j lx ly h)
    (zip2_at bit_xor ys zs n j ly lz h))
    ∙ maj_short (slice_index xs j) (slice_index ys j) (slice_index zs j)

-- word k of a lane's window
pub window_at : (j : ℕ) (w : List (List ℕ)) (k : ℕ) → k < length w → slice_index (window_of j w) k ≡ lane_at w k j
window_at j w k h = get_or-map (λ (v : List ℕ). slice_index v j) w k [] 0 h

pub window_length : (j : ℕ) (w : List (List ℕ)) → length (window_of j w) ≡ length w
window_length j w = length-map w (λ (v : List ℕ). slice_index v j)

-- a word is written into each lane's window
pub window_set : (j : ℕ) (w : List (List ℕ)) (k : ℕ) (v : List ℕ) →
    window_of j (slice_set w k v) ≡ slice_set (window_of j w) k (slice_index v j)
window_set j w k v = map-set (λ (u : List ℕ). slice_index u j) w k v

-- a word of a piece
pub word_at_piece : (bytes : List ℕ) (n k : ℕ) → k < 16 → word_at (piece_at 64 bytes n) (4 * k) ≡ word_at bytes (n + 4 * k)
word_at_piece bytes n k h =
    let next : (d : ℕ) → n + (4 * k + d) ≡ n + 4 * k + d = λ d. omega arith in
    rw (
      get_or-chunk n 64 bytes (4 * k) 0 (omega arith),
      get_or-chunk n 64 bytes (4 * k + 1) 0 (omega arith),
      get_or-chunk n 64 bytes (4 * k + 2) 0 (omega arith),
      get_or-chunk n 64 bytes (4 * k + 3) 0 (omega arith),
      next 1,
      next 2,
      next 3,
    ) refl

pub wide_word_at_piece : (bytes : List ℕ) (n k : ℕ) → k < 16 → wide.word_at (piece_at 128 bytes n) (8 * k) ≡ wide.word_at bytes (n + 8 * k)
wide_word_at_piece bytes n k h =
    let next : (d : ℕ) → n + (8 * k + d) ≡ n + 8 * k + d = λ d. omega arith in
    rw (
      get_or-chunk n 128 bytes (8 * k) 0 (omega arith),
      get_or-chunk n 128 bytes (8 * k + 1) 0 (omega arith),
      get_or-chunk n 128 bytes (8 * k + 2) 0 (omega arith),
      get_or-chunk n 128 bytes (8 * k + 3) 0 (omega arith),
      get_or-chunk n 128 bytes (8 * k + 4) 0 (omega arith),
      get_or-chunk n 128 bytes (8 * k + 5) 0 (omega arith),
      get_or-chunk n 128 bytes (8 * k + 6) 0 (omega arith),
      get_or-chunk n 128 bytes (8 * k + 7) 0 (omega arith),
      next 1,
      next 2,
      next 3,
      next 4,
      next 5,
      next 6,
      next 7,
    ) refl
