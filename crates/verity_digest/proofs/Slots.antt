-- Digests in the slots of hash blocks.
use Rattle.std.proofs.Common.{◌≡◌, ℕ, zero, suc, ◌+◌, ◌-◌, ◌*◌, ◌/◌, ◌%◌, ◌<◌, ◌≤◌, min, List, [], ◌∷◌, ◌++◌, length, map, take}
use Rattle.std.proofs.Common.{drop, replicate, get_or, sym, ap, ◌∙◌, arith}
use Rattle.std.specs.Int.{div_ceil}
use Rattle.std.specs.List.{concat}
use Rattle.std.specs.Fork.{slice_chunk}
use Rattle.std.proofs.Math.Nat.{suc-mul, zero-mul, mul-le-mul_right, div-add-mod', div-mul-le_self, add-mul, lt_of_mul-lt-mul_right}
use Rattle.std.proofs.lemmas.Nat.{mod_below}
use Rattle.std.proofs.lemmas.List.{length-append, length-take, length-drop, take_at, drop_at, drop-drop, take-append-le}
use Rattle.std.proofs.lemmas.List.{drop-append-le, get_or-take, get_or-drop, get_or-map, length-map, length-replicate}
use Rattle.verity_digest.specs.Tree.{Hashing, per_block, pack, hash_block, slot, IsHashing}
use Rattle.verity_digest.proofs.Ceil.{IsCeil-div_ceil}
use Rattle.verity_digest.proofs.Packing.{get_or-pack}

-- each of these digests has this size
pub record AreSized (size : ℕ) (digests : List (List ℕ)) : Type 0 where
  pub each : (i : ℕ) → i < length digests → length (get_or digests i []) ≡ size

AreSized-rest : (size : ℕ) (d : List ℕ) (digests : List (List ℕ)) → AreSized size (d ∷ digests) → AreSized size digests
AreSized-rest size d digests s = record { each = λ i l. s.each (suc i) (omega arith) }

pub length-concat : (size : ℕ) (digests : List (List ℕ)) → AreSized size digests → length (concat digests) ≡ length digests * size
length-concat size [] s = sym (zero-mul size)
length-concat size (d ∷ digests) s =
    omega (
      arith,
      length-append d (concat digests),
      s.each 0 (omega arith),
      length-concat size digests (AreSized-rest size d digests s),
      suc-mul (length digests) size,
    )

take-drop-concat : (size : ℕ) (digests : List (List ℕ)) (j : ℕ) → AreSized size digests → j < length digests →
    take size (drop (j * size) (concat digests)) ≡ get_or digests j []
take-drop-concat size [] j s l = absurd (omega arith)
take-drop-concat size (d ∷ digests) zero s l =
    rw zero-mul (take_at d (concat digests) size (s.each 0 (omega arith)))
take-drop-concat size (d ∷ digests) (suc j) s l =
    let at : (suc j) * size ≡ size + j * size = omega (arith, suc-mul j size) in
    ap (λ n. take size (drop n (d ++ concat digests))) at
    ∙ ap (λ bytes. take size bytes) (sym (drop-drop (j * size) size (d ++ concat digests)))
    ∙ ap (λ bytes. take size (drop (j * size) bytes)) (drop_at d (concat digests) size (s.each 0 (omega arith)))
    ∙ take-drop-concat size digests j (AreSized-rest size d digests s) (omega arith)

-- the j-th digest of a run stands in slot j
pub slot-hash_block : (h : Hashing) (run : List (List ℕ)) (j : ℕ) → AreSized h.digest_size run → j < length run →
    slot h (hash_block h run) j ≡ get_or run j []
slot-hash_block h run j s l =
    let size : ℕ = h.digest_size in
    let bytes : List ℕ = concat run in
    let zeros : List ℕ = replicate (h.block_size - length bytes) 0 in
    let whole : length bytes ≡ length run * size = length-concat size run s in
    let within : (j + 1) * size ≤ length run * size = mul-le-mul_right size (omega arith) in
    let parted : (j + 1) * size ≡ j * size + 1 * size = add-mul j 1 size in
    let left : size ≤ length (drop (j * size) bytes) = rw length-drop (omega arith) in
    ap (λ b. take size b) (drop-append-le (j * size) bytes zeros (omega arith))
    ∙ take-append-le size (drop (j * size) bytes) zeros left
    ∙ take-drop-concat size run j s l

-- the room behind the digests is zeros
pub drop-hash_block : (h : Hashing) (run : List (List ℕ)) → AreSized h.digest_size run →
    drop (length run * h.digest_size) (hash_block h run) ≡ replicate (h.block_size - length run * h.digest_size) 0
drop-hash_block h run s =
    let whole : length (concat run) ≡ length run * h.digest_size = length-concat h.digest_size run s in
    drop_at (concat run) (replicate (h.block_size - length (concat run)) 0) (length run * h.digest_size) whole
    ∙ ap (λ n. replicate (h.block_size - n) 0) whole

pub length-hash_block : (h : Hashing) (run : List (List ℕ)) → AreSized h.digest_size run → length run ≤ per_block h →
    length (hash_block h run) ≡ h.block_size
length-hash_block h run s fits =
    let whole : length (concat run) ≡ length run * h.digest_size = length-concat h.digest_size run s in
    let room : length run * h.digest_size ≤ per_block h * h.digest_size = mul-le-mul_right h.digest_size fits in
    let most : per_block h * h.digest_size ≤ h.block_size = div-mul-le_self h.block_size h.digest_size in
    omega (
      arith,
      length-append (concat run) (replicate (h.block_size - length (concat run)) 0),
      length-replicate {A = ℕ} (h.block_size - length (concat run)) 0,
    )

-- a run of sized digests
pub AreSized-run : (size : ℕ) (digests : List (List ℕ)) (w i : ℕ) → AreSized size digests → AreSized size (slice_chunk digests w i)
AreSized-run size digests w i s = record {
  each = λ a b.
      let short : length (slice_chunk digests w i) ≡ min w (length digests - i * w) = length-take w (drop (i * w) digests)
      ∙ ap (λ n. min w n) (length-drop (i * w) digests) in
      ap length (get_or-take w (drop (i * w) digests) a [] (omega arith) ∙ get_or-drop (i * w) digests a [])
      ∙ s.each (i * w + a) (omega arith);
}

-- the digests of blocks are sized
pub AreSized-digests : (h : Hashing) (blocks : List (List ℕ)) → IsHashing h → AreSized h.digest_size (map h.digest blocks)
AreSized-digests h blocks ok = record {
  each = λ a b.
      let c : a < length blocks = rw length-map at b in
      ap length (get_or-map h.digest blocks a [] [] c) ∙ ok.sized (get_or blocks a []);
}

-- digest j stands in block j / k, slot j % k
pub slot-pack : (h : Hashing) (digests : List (List ℕ)) (j : ℕ) → AreSized h.digest_size digests → 0 < per_block h →
    j < length digests → slot h (get_or (pack h digests) (j / per_block h) []) (j % per_block h) ≡ get_or digests j []
slot-pack h digests j s k l =
    let w : ℕ = per_block h in
    let i : ℕ = j / w in
    let r : ℕ = j % w in
    let run : List (List ℕ) = slice_chunk digests w i in
    let split : i * w + r ≡ j = div-add-mod' j w in
    let low : r < w = mod_below j w k in
    let up = IsCeil-div_ceil (length digests) w k in
    let block : i < div_ceil (length digests) w = lt_of_mul-lt-mul_right w (omega (arith, up.above)) in
    let inside : r < length run = rw (length-take, length-drop) (omega arith) in
    let same : (a : ℕ) → a < w → get_or run a [] ≡ get_or digests (i * w + a) [] =
    λ a b. get_or-take w (drop (i * w) digests) a [] b ∙ get_or-drop (i * w) digests a [] in
    let sized : AreSized h.digest_size run = AreSized-run h.digest_size digests w i s in
    ap (λ b. slot h b r) (get_or-pack h digests i block)
    ∙ slot-hash_block h run r sized inside
    ∙ same r low
    ∙ ap (λ n. get_or digests n []) split
