-- The bytes of a padded message, 64 at a time.
use Rattle.std.proofs.Common.{◌≡◌, ℕ, zero, suc, ◌+◌, ◌-◌, ◌*◌, ◌%◌, ◌^◌, ◌<◌, ◌≤◌, List, ◌∷◌, ◌++◌, ◌∙◌, length, take, drop}
use Rattle.std.proofs.Common.{replicate, min, slice_index, arith, refl, sym, ap, ap₂, inl, inr, add-one, length-append, length-drop}
use Rattle.std.proofs.lemmas.List.{take-append-le, take_all, drop_all, drop-append-le, append-nil, append_assoc, take-take}
use Rattle.std.proofs.lemmas.List.{drop-take, drop-drop, length-take-le, take-replicate, length-replicate}
use Rattle.std.proofs.lemmas.Slice.{take-put_mid, take-put_mid_below}
use Rattle.std.proofs.lemmas.Bool.{cases_lt}
use Rattle.std.proofs.Math.Seq.{take-append-add, drop-append-add}
use Rattle.std.specs.Int.{w64, w128, to_be_bytes}
use Rattle.std.proofs.Math.Nat.{mul-le-mul_left}
use Rattle.sha2.specs.Sha512 as wide
use Rattle.sha2.proofs.Absorbing512 as wide_absorbing
use Rattle.sha2.specs.Sha256.{padding, compress, hash_after}
use Rattle.sha2.proofs.Absorbing256.{hash_after_next}
use Rattle.verity_digest_lanes.specs.Lanes.{lane, lane_at, piece_at}
use Rattle.std.specs.Fork.{slice_chunk}
use borrow.Rule.Slice.PartMut.{put_mid}

pub take_append : (n : ℕ) (xs ys : List ℕ) → length xs ≤ n → take n (xs ++ ys) ≡ xs ++ take (n - length xs) ys
take_append n xs ys h =
    let e : n ≡ length xs + (n - length xs) = omega arith in
    ap (λ (k : ℕ). take k (xs ++ ys)) e ∙ take-append-add xs ys (n - length xs)

pub drop_append : (n : ℕ) (xs ys : List ℕ) → drop n (xs ++ ys) ≡ drop n xs ++ drop (n - length xs) ys
drop_append n xs ys = elim (cases_lt n (length xs)) [
  | inl lt ↦
      let z : n - length xs ≡ 0 = omega arith in
      drop-append-le n xs ys (omega arith) ∙ rw z refl
  | inr ge ↦
      let e : n ≡ length xs + (n - length xs) = omega arith in
      ap (λ (k : ℕ). drop k (xs ++ ys)) e ∙ drop-append-add xs ys (n - length xs)
      ∙ ap (λ (l : List ℕ). l ++ drop (n - length xs) ys) (sym (drop_all n xs (omega arith)))
]

pub take_take_append : (n : ℕ) (xs ys : List ℕ) → take n (take n xs ++ ys) ≡ take n (xs ++ ys)
take_take_append n xs ys = elim (cases_lt n (length xs)) [
  | inl lt ↦
      let le : n ≤ length xs = omega arith in
      let len : length (take n xs) ≡ n = length-take-le n xs le in
      take-append-le n (take n xs) ys (omega arith) ∙ take-take n n xs (omega arith) ∙ sym (take-append-le n xs ys le)
  | inr ge ↦ ap (λ (l : List ℕ). take n (l ++ ys)) (take_all n xs (omega arith))
]

-- how many bytes there are is as good a limit
pub take_min : (n c : ℕ) (xs : List ℕ) → c ≡ min n (length xs) → take n xs ≡ take c xs
take_min n c xs e = elim (cases_lt n (length xs)) [
  | inl lt ↦ let same : n ≡ c = omega arith in ap (λ (k : ℕ). take k xs) same
  | inr ge ↦ take_all n xs (omega arith) ∙ sym (take_all c xs (omega arith))
]

-- what pour leaves
pub poured : (room ys source : List ℕ) (used at c k : ℕ) → used ≤ length room → at ≤ length source →
    c ≡ min (length room - used) (length source - at)
    → ys ≡ take c (drop at source) → take (used + c) (put_mid used k room ys) ≡ take (length room) (take used room ++ drop at source)
poured room ys source used at c k fits within ec ey =
    let d : List ℕ = drop at source in
    let ld : length d ≡ length source - at = length-drop at source in
    let ly : length ys ≡ c = ap length ey ∙ length-take-le c d (omega arith) in
    let lu : length (take used room) ≡ used = length-take-le used room fits in
    take-put_mid used k room ys (used + c) (omega arith) fits
    ∙ ap (λ (l : List ℕ). take used room ++ l) (ey ∙ sym (take_min (length room - used) c d (omega arith))
    ∙ ap (λ (m : ℕ). take (length room - m) d) (sym lu))
    ∙ sym (take_append (length room) (take used room) d (omega arith))

pub poured_none : (room source : List ℕ) (used at : ℕ) → used ≤ length room → length source ≤ at
    → take used room ≡ take (length room) (take used room ++ drop at source)
poured_none room source used at fits past =
    let lu : length (take used room) ≡ used = length-take-le used room fits in
    rw (drop_all at source past, append-nil) (sym (take_all (length room) (take used room) (omega arith)))

-- three parts poured into an empty room
pub filled : (r r1 r2 r3 a b c : List ℕ) (s n n2 n3 u1 u2 u3 : ℕ) → n2 ≡ n - length a → n3 ≡ n2 - length b → length r ≡ s →
    length r1 ≡ s → length r2 ≡ s → length r3 ≡ s → u3 ≤ s
    → n + s ≤ length a + length b + length c
    → take u1 r1 ≡ take (length r) (take 0 r ++ drop n a)
    → take u2 r2 ≡ take (length r1) (take u1 r1 ++ drop n2 b)
    → take u3 r3 ≡ take (length r2) (take u2 r2 ++ drop n3 c)
    → r3 ≡ piece_at s (a ++ (b ++ c)) n
filled r r1 r2 r3 a b c s n n2 n3 u1 u2 u3 en2 en3 lr l1 l2 l3 le within e1 e2 e3 =
    let da : List ℕ = drop n a in
    let db : List ℕ = drop n2 b in
    let dc : List ℕ = drop n3 c in
    let t1 : take u1 r1 ≡ take s da = rw lr at e1 in
    let t2 : take u2 r2 ≡ take s (da ++ db) = rw (l1, t1) at e2 ∙ take_take_append s da db in
    let t3 : take u3 r3 ≡ take s ((da ++ db) ++ dc) = rw (l2, t2) at e3 ∙ take_take_append s (da ++ db) dc in
    let whole : drop n (a ++ (b ++ c)) ≡ (da ++ db) ++ dc = drop_append n a (b ++ c)
    ∙ ap (λ (l : List ℕ). da ++ l) (ap (λ (k : ℕ). drop k (b ++ c)) (sym en2) ∙ drop_append n2 b c
    ∙ ap (λ (k : ℕ). db ++ drop k c) (sym en3)) ∙ sym (append_assoc da db dc) in
    let t : take u3 r3 ≡ piece_at s (a ++ (b ++ c)) n = t3 ∙ ap (take s) (sym whole) in
    let lw : length (drop n (a ++ (b ++ c))) ≡ length a + (length b + length c) - n =
    omega (arith, length-drop n (a ++ (b ++ c)), length-append a (b ++ c), length-append b c) in
    let lc : length (piece_at s (a ++ (b ++ c)) n) ≡ s = length-take-le s (drop n (a ++ (b ++ c))) (omega arith) in
    let lu : length (take u3 r3) ≡ u3 = length-take-le u3 r3 (omega arith) in
    let full : u3 ≡ s = sym lu ∙ ap length t ∙ lc in
    sym (take_all s r3 (omega arith)) ∙ ap (λ (k : ℕ). take k r3) (sym full) ∙ t

-- a write to part k of parts of one size
pub part_below : (room ys : List ℕ) (size j k s : ℕ) → j < k → k * size ≤ length room →
    piece_at size (put_mid (k * size) s room ys) (j * size) ≡ piece_at size room (j * size)
part_below room ys size j k s lt fits =
    let next : j + 1 ≤ k = omega arith in
    let e : j * size + size ≤ k * size = omega (arith, mul-le-mul_left size next) in
    let m : ℕ = k * size in
    let cut : (l : List ℕ) → drop (j * size) (take (j * size + size) l) ≡ piece_at size l (j * size) = λ l. drop-take (j * size) size l in
    sym (cut (put_mid m s room ys)) ∙ ap (drop (j * size)) (take-put_mid_below m s room ys (j * size + size) e fits) ∙ cut room

pub part_at : (room ys : List ℕ) (size k s : ℕ) → length ys ≡ size → k * size ≤ length room →
    piece_at size (put_mid (k * size) s room ys) (k * size) ≡ ys
part_at room ys size k s ly fits =
    let m : ℕ = k * size in
    let lt : length (take m room) ≡ m = length-take-le m room fits in
    let cut : drop m (take (m + size) (put_mid m s room ys)) ≡ piece_at size (put_mid m s room ys) m =
    drop-take m size (put_mid m s room ys) in
    sym cut
    ∙ ap (drop m) (take-put_mid m s room ys (m + size) (omega arith) fits)
    ∙ drop_append m (take m room) ys
    ∙ (let z : m - length (take m room) ≡ 0 = omega arith in rw (drop_all m (take m room) (omega arith), z) refl)

-- the part that is lent for it
pub same_part : (room ys message : List ℕ) (n k size from : ℕ) → ys ≡ piece_at (length (take k (drop n room))) message from →
    k ≡ size → n + size ≤ length room → ys ≡ piece_at size message from
same_part room ys message n k size from e ek fits =
    let room_left : size ≤ length (drop n room) = omega (arith, length-drop n room) in
    let len : length (take k (drop n room)) ≡ size = ap (λ (m : ℕ). length (take m (drop n room))) ek
    ∙ length-take-le size (drop n room) room_left in
    e ∙ ap (λ (m : ℕ). piece_at m message from) len

-- a piece of a block is one of its message
pub whole_in_block : (salt blocks pad : List ℕ) (s size j n : ℕ) → length salt ≤ n → n + s ≤ length salt + size →
    (j + 1) * size ≤ length blocks
    → piece_at s blocks (j * size + (n - length salt)) ≡ piece_at s (salt ++ (slice_chunk blocks size j ++ pad)) n
whole_in_block salt blocks pad s size j n low high fits =
    let m : ℕ = n - length salt in
    let rest : List ℕ = drop (j * size) blocks in
    let lrest : length rest ≡ length blocks - j * size = length-drop (j * size) blocks in
    let room : size ≤ length rest = omega arith in
    let lb : length (slice_chunk blocks size j) ≡ size = length-take-le size rest room in
    let start : drop n (salt ++ (slice_chunk blocks size j ++ pad)) ≡ drop m (slice_chunk blocks size j ++ pad) =
    drop_append n salt (slice_chunk blocks size j ++ pad) ∙ ap (λ (l : List ℕ). l ++ drop m (slice_chunk blocks size j ++ pad))
    (drop_all n salt low) in
    let lm : length (drop m (slice_chunk blocks size j)) ≡ size - m = length-drop m (slice_chunk blocks size j)
    ∙ ap (λ (k : ℕ). k - m) lb in
    let split : size ≡ m + (size - m) = omega arith in
    let inner : drop m (slice_chunk blocks size j) ≡ take (size - m) (drop m rest) = ap (λ (k : ℕ). drop m (take k rest)) split
    ∙ drop-take m (size - m) rest in
    sym (ap (take s) start
    ∙ ap (take s) (drop-append-le m (slice_chunk blocks size j) pad (omega arith))
    ∙ take-append-le s (drop m (slice_chunk blocks size j)) pad (omega arith)
    ∙ ap (take s) inner
    ∙ take-take s (size - m) (drop m rest) (omega arith)
    ∙ ap (take s) (drop-drop m (j * size) blocks))

-- the state after one more piece
pub hashed_next : (h h2 i p : List ℕ) (k : ℕ) (b : List ℕ) → h ≡ hash_after i p k → h2 ≡ compress h b → b ≡ piece_at 64 p (64 * k) →
    h2 ≡ hash_after i p (k + 1)
hashed_next h h2 i p k b eh e2 eb =
    let n : 64 * k ≡ k * 64 = omega arith in
    e2 ∙ ap₂ compress eh (eb ∙ ap (piece_at 64 p) n) ∙ sym (hash_after_next i p k)

pub wide_hashed_next : (h h2 i p : List ℕ) (k : ℕ) (b : List ℕ) → h ≡ wide.hash_after i p k → h2 ≡ wide.compress h b →
    b ≡ piece_at 128 p (128 * k) → h2 ≡ wide.hash_after i p (k + 1)
wide_hashed_next h h2 i p k b eh e2 eb =
    let n : 128 * k ≡ k * 128 = omega arith in
    e2 ∙ ap₂ wide.compress eh (eb ∙ ap (piece_at 128 p) n) ∙ sym (wide_absorbing.hash_after_next i p k)

-- the padding begins with a bit 1 and zeros
pub padding_front : (x y z n : ℕ) → z ≤ n → take (z + 1) (x ∷ replicate n y) ≡ x ∷ replicate z y
padding_front x y z n h =
    let zeros : take z (replicate n y) ≡ replicate z y = take-replicate z n y h in
    rw (add-one, zeros) refl

pub length_padding : (n : ℕ) → length (padding n) ≡ (119 - n % 64) % 64 + 9
length_padding n =
    let zero_byte : ℕ = 0 in
    let z : ℕ = (119 - n % 64) % 64 in
    omega (arith, length-append (replicate z zero_byte) (to_be_bytes w64 (n * 8 % 2 ^ 64)), length-replicate z zero_byte)

pub wide_length_padding : (n : ℕ) → length (wide.padding n) ≡ (239 - n % 128) % 128 + 17
wide_length_padding n =
    let zero_byte : ℕ = 0 in
    let z : ℕ = (239 - n % 128) % 128 in
    omega (arith, length-append (replicate z zero_byte) (to_be_bytes w128 (n * 8 % 2 ^ 128)), length-replicate z zero_byte)

-- the parts of a message and its padding
pub message_parts : (padding : ℕ → List ℕ) (salt block pad : List ℕ) (n : ℕ) → n ≡ length salt + length block → pad ≡ padding n
    → salt ++ (block ++ pad) ≡ (salt ++ block) ++ padding (length (salt ++ block))
message_parts padding salt block pad n en ep =
    let len : length (salt ++ block) ≡ n = length-append salt block ∙ sym en in
    rw (len, append_assoc, ep) refl

pub length_message : (padding : ℕ → List ℕ) (salt block : List ℕ) (n : ℕ) → n ≡ length salt + length block
    → length ((salt ++ block) ++ padding (length (salt ++ block))) ≡ n + length (padding n)
length_message padding salt block n en =
    let len : length (salt ++ block) ≡ n = length-append salt block ∙ sym en in
    length-append (salt ++ block) (padding (length (salt ++ block))) ∙ rw len refl

pub length_block : (blocks : List ℕ) (size j : ℕ) → (j + 1) * size ≤ length blocks → length (slice_chunk blocks size j) ≡ size
length_block blocks size j fits = length-take-le size (drop (j * size) blocks) (omega (arith, length-drop (j * size) blocks))

pub below_eight : (P : ℕ → Type 0) → P 0 → P 1 → P 2 → P 3 → P 4 → P 5 → P 6 → P 7 → (j : ℕ) → j < 8 → P j
below_eight P a b c d e f g h zero l = a
below_eight P a b c d e f g h (suc zero) l = b
below_eight P a b c d e f g h (suc (suc zero)) l = c
below_eight P a b c d e f g h (suc (suc (suc zero))) l = d
below_eight P a b c d e f g h (suc (suc (suc (suc zero)))) l = e
below_eight P a b c d e f g h (suc (suc (suc (suc (suc zero))))) l = f
below_eight P a b c d e f g h (suc (suc (suc (suc (suc (suc zero)))))) l = g
below_eight P a b c d e f g h (suc (suc (suc (suc (suc (suc (suc zero))))))) l = h
below_eight P a b c d e f g h (suc (suc (suc (suc (suc (suc (suc (suc n)))))))) l = absurd (omega arith)

-- word k of a lane
pub lane_word : (x : List (List ℕ)) (j k : ℕ) → k < 8 → slice_index (lane j x) k ≡ lane_at x k j
lane_word x j = below_eight _ refl refl refl refl refl refl refl refl
