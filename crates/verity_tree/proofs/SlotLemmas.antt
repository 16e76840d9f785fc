-- Digests in the slots of a hash block that is being filled.
use Rattle.std.proofs.Common.{◌≡◌, ℕ, zero, suc, ◌+◌, ◌-◌, ◌*◌, ◌/◌, ◌<◌, ◌≤◌, List, [], ◌∷◌, ◌++◌, length, take, drop, replicate}
use Rattle.std.proofs.Common.{get_or, ⊎_elim, refl, sym, ap, ◌∙◌, arith}
use Rattle.std.specs.List.{concat}
use Rattle.std.specs.Fork.{slice_chunk}
use Rattle.std.proofs.Math.Nat.{suc-mul, zero-mul, mul-le-mul_right, add-mul, div-mul-le_self, div-lt_iff_lt-mul}
use Rattle.std.specs.Prelude.{◌↔◌}
use Rattle.std.proofs.lemmas.List.{length-append, length-take, length-drop, take-append-drop, take_at, drop_at, drop-drop}
use Rattle.std.proofs.lemmas.List.{append_assoc, append-nil, drop-replicate, get_or_append_left, get_or-append-add}
use Rattle.std.proofs.lemmas.Bool.{cases_lt}
use Rattle.verity_digest.proofs.Slots.{AreSized, length-concat}
use Rattle.verity_tree.specs.Filled.{slots}
use Rattle.verity_tree.specs.Open.{Open}

pub length-slots : (size n : ℕ) (bytes : List ℕ) → length (slots size n bytes) ≡ n
length-slots size zero bytes = refl
length-slots size (suc n) bytes = ap suc (length-slots size n (drop size bytes))

-- the slots are the bytes, as far as they go
pub concat-slots : (size n : ℕ) (bytes : List ℕ) → n * size ≤ length bytes → concat (slots size n bytes) ++ drop (n * size) bytes ≡ bytes
concat-slots size zero bytes fits = let e : 0 * size ≡ 0 = zero-mul size in rw e refl
concat-slots size (suc n) bytes fits =
    let more : suc n * size ≡ n * size + size = omega (arith, suc-mul n size) in
    let left : n * size ≤ length (drop size bytes) = rw length-drop (omega arith) in
    append_assoc (take size bytes) (concat (slots size n (drop size bytes))) (drop (suc n * size) bytes)
    ∙ ap (λ m. take size bytes ++ (concat (slots size n (drop size bytes)) ++ drop m bytes)) more
    ∙ ap (λ rest. take size bytes ++ (concat (slots size n (drop size bytes)) ++ rest))
    (sym (drop-drop (n * size) size bytes ∙ ap (λ m. drop m bytes) (let e : size + n * size ≡ n * size + size = omega arith in e)))
    ∙ ap (λ rest. take size bytes ++ rest) (concat-slots size n (drop size bytes) left)
    ∙ take-append-drop size bytes

pub length-slot : (size n : ℕ) (bytes : List ℕ) (j : ℕ) → n * size ≤ length bytes → j < n → length (get_or (slots size n bytes) j []) ≡ size
length-slot size zero bytes j fits below = absurd (omega arith)
length-slot size (suc n) bytes zero fits below = rw length-take (omega (arith, suc-mul n size))
length-slot size (suc n) bytes (suc j) fits below =
    let left : n * size ≤ length (drop size bytes) = rw length-drop (omega (arith, suc-mul n size)) in
    length-slot size n (drop size bytes) j left (omega arith)

pub AreSized-slots : (size n : ℕ) (bytes : List ℕ) → n * size ≤ length bytes → AreSized size (slots size n bytes)
AreSized-slots size n bytes fits = record {
  each = λ j below. length-slot size n bytes j fits (let e = length-slots size n bytes in
      omega arith);
}

-- digests in a row are what the slots hold
pub slots-concat : (size : ℕ) (digests : List (List ℕ)) (rest : List ℕ) → AreSized size digests →
    slots size (length digests) (concat digests ++ rest) ≡ digests
slots-concat size [] rest sized = refl
slots-concat size (d ∷ digests) rest sized =
    let here : length d ≡ size = sized.each 0 (omega arith) in
    let others : AreSized size digests = record { each = λ i l. sized.each (suc i) (omega arith) } in
    let whole : (d ++ concat digests) ++ rest ≡ d ++ (concat digests ++ rest) = append_assoc d (concat digests) rest in
    ap (λ bytes. take size bytes ∷ slots size (length digests) (drop size bytes)) whole
    ∙ ap (λ first. first ∷ slots size (length digests) (drop size (d ++ (concat digests ++ rest))))
    (take_at d (concat digests ++ rest) size here)
    ∙ ap (λ bytes. d ∷ slots size (length digests) bytes) (drop_at d (concat digests ++ rest) size here)
    ∙ ap (λ ds. d ∷ ds) (slots-concat size digests rest others)

concat-push : (xs : List (List ℕ)) (y : List ℕ) → concat (xs ++ y ∷ []) ≡ concat xs ++ y
concat-push [] y = append-nil y
concat-push (x ∷ xs) y = ap (λ ys. x ++ ys) (concat-push xs y) ∙ sym (append_assoc x (concat xs) y)

-- bytes of n digests and zeros
pub record Holds (size n : ℕ) (bytes : List ℕ) : Type 0 where
  pub within : n * size ≤ length bytes
  pub zeros : drop (n * size) bytes ≡ replicate (length bytes - n * size) 0

-- one more digest, written behind them
pub record Put (size n : ℕ) (bytes d new : List ℕ) : Type 0 where
  pub len : length new ≡ length bytes
  pub holds : Holds size (n + 1) new
  pub slots : slots size (n + 1) new ≡ slots size n bytes ++ d ∷ []

AreSized-push : (size : ℕ) (ds : List (List ℕ)) (d : List ℕ) → AreSized size ds → length d ≡ size → AreSized size (ds ++ d ∷ [])
AreSized-push size ds d sized len = record {
  each = λ i below. ⊎_elim
      (λ l. ap length (get_or_append_left ds (d ∷ []) [] i l) ∙ sized.each i l)
      (λ g. let at : i ≡ length ds + 0 = omega (arith, length-append ds (d ∷ [])) in
      ap (λ j. length (get_or (ds ++ d ∷ []) j [])) at ∙ ap length (get_or-append-add ds (d ∷ []) 0 []) ∙ len)
      (cases_lt i (length ds));
}

-- the bytes with a digest written behind those in the first n slots
record Pushed (size n : ℕ) (bytes d new : List ℕ) : Type 0 where
  len : length new ≡ length bytes
  whole : new ≡ concat (slots size n bytes ++ d ∷ []) ++ drop (n * size + length d) bytes
  wide : length (concat (slots size n bytes ++ d ∷ [])) ≡ (n + 1) * size
  slots : slots size (n + 1) new ≡ slots size n bytes ++ d ∷ []

pushed : (size n : ℕ) (bytes d : List ℕ) → length d ≡ size → (n + 1) * size ≤ length bytes → n * size ≤ length bytes
    → Pushed size n bytes d (take (n * size) bytes ++ (d ++ drop (n * size + length d) bytes))
pushed size n bytes d len room within =
    let a : ℕ = n * size in
    let ds : List (List ℕ) = slots size n bytes in
    let rest : List ℕ = drop (a + length d) bytes in
    let new : List ℕ = take a bytes ++ (d ++ rest) in
    let next : (n + 1) * size ≡ a + size = omega (arith, add-mul n 1 size) in
    let sized : AreSized size ds = AreSized-slots size n bytes within in
    let sized_more : AreSized size (ds ++ d ∷ []) = AreSized-push size ds d sized len in
    let front : take a bytes ≡ concat ds =
    ap (λ bs. take a bs) (sym (concat-slots size n bytes within))
    ∙ take_at (concat ds) (drop a bytes) a (length-concat size ds sized ∙ ap (λ m. m * size) (length-slots size n bytes)) in
    let whole : new ≡ concat (ds ++ d ∷ []) ++ rest =
    ap (λ bs. bs ++ (d ++ rest)) front ∙ sym (append_assoc (concat ds) d rest) ∙ ap (λ bs. bs ++ rest) (sym (concat-push ds d)) in
    let count : length (ds ++ d ∷ []) ≡ n + 1 = omega (arith, length-append ds (d ∷ []), length-slots size n bytes) in
    let wide : length (concat (ds ++ d ∷ [])) ≡ (n + 1) * size = length-concat size (ds ++ d ∷ []) sized_more ∙ ap (λ m. m * size) count in
    record {
      len =
          ap length whole ∙ (let e : length (concat (ds ++ d ∷ []) ++ rest) ≡ length bytes = omega (
            arith,
            length-append (concat (ds ++ d ∷ [])) rest,
            length-drop (a + length d) bytes,
          ) in e);
      whole = whole;
      wide = wide;
      slots =
          ap (λ m. slots size m new) (sym count)
          ∙ ap (λ bs. slots size (length (ds ++ d ∷ [])) bs) whole
          ∙ slots-concat size (ds ++ d ∷ []) rest sized_more;
    }

-- a block behind those that are in the first n slots
pub pushed_slots : (size n : ℕ) (bytes d : List ℕ) → length d ≡ size → (n + 1) * size ≤ length bytes → n * size ≤ length bytes
    → slots size (n + 1) (take (n * size) bytes ++ (d ++ drop (n * size + length d) bytes)) ≡ slots size n bytes ++ d ∷ []
pushed_slots size n bytes d len room within = (pushed size n bytes d len room within).slots

pub pushed_len : (size n : ℕ) (bytes d : List ℕ) → length d ≡ size → (n + 1) * size ≤ length bytes → n * size ≤ length bytes
    → length (take (n * size) bytes ++ (d ++ drop (n * size + length d) bytes)) ≡ length bytes
pushed_len size n bytes d len room within = (pushed size n bytes d len room within).len

pub put_slot : (size n : ℕ) (bytes d : List ℕ) → length d ≡ size → (n + 1) * size ≤ length bytes → Holds size n bytes
    → Put size n bytes d (take (n * size) bytes ++ (d ++ drop (n * size + length d) bytes))
put_slot size n bytes d len room holds =
    let a : ℕ = n * size in
    let rest : List ℕ = drop (a + length d) bytes in
    let new : List ℕ = take a bytes ++ (d ++ rest) in
    let next : (n + 1) * size ≡ a + size = omega (arith, add-mul n 1 size) in
    let push = pushed size n bytes d len room holds.within in
    record {
      len = push.len;
      holds = record {
        within = omega (arith, push.len);
        zeros =
            ap (λ bs. drop ((n + 1) * size) bs) push.whole
            ∙ drop_at (concat (slots size n bytes ++ d ∷ [])) rest ((n + 1) * size) push.wide
            ∙ sym (drop-drop (length d) a bytes ∙ ap (λ m. drop m bytes) (let e : a + length d ≡ a + length d = refl in e))
            ∙ ap (λ bs. drop (length d) bs) holds.zeros
            ∙ drop-replicate (length d) (length bytes - a) 0
            ∙ ap (λ m. replicate m 0) (let e : length bytes - a - length d ≡ length new - (n + 1) * size = omega (arith, push.len) in e);
      };
      slots = push.slots;
    }

-- slot j of the first n
pub slot_chunk : (size n : ℕ) (bytes : List ℕ) (j : ℕ) → j < n → get_or (slots size n bytes) j [] ≡ slice_chunk bytes size j
slot_chunk size zero bytes j below = absurd (omega arith)
slot_chunk size (suc n) bytes zero below = ap (λ m. take size (drop m bytes)) (sym (zero-mul size))
slot_chunk size (suc n) bytes (suc j) below =
    slot_chunk size n (drop size bytes) j (omega arith)
    ∙ ap (take size) (drop-drop (j * size) size bytes)
    ∙ ap (λ m. take size (drop m bytes)) (let e : size + j * size ≡ suc j * size = omega (arith, suc-mul j size) in e)

-- the bytes are the hash block of the digests in the slots
pub bytes_are : (size n : ℕ) (bytes : List ℕ) → Holds size n bytes →
    bytes ≡ concat (slots size n bytes) ++ replicate (length bytes - length (concat (slots size n bytes))) 0
bytes_are size n bytes holds =
    let ds : List (List ℕ) = slots size n bytes in
    let wide : length (concat ds) ≡ n * size = length-concat size ds (AreSized-slots size n bytes holds.within)
    ∙ ap (λ m. m * size) (length-slots size n bytes) in
    sym (concat-slots size n bytes holds.within)
    ∙ ap (λ rest. concat ds ++ rest) holds.zeros
    ∙ ap (λ m. concat ds ++ replicate (length bytes - m) 0) (sym wide)

-- room for one more
pub room_for_one : (size n bytes : ℕ) → n < bytes / size → (n + 1) * size ≤ bytes
room_for_one size n bytes below =
    let most : bytes / size * size ≤ bytes = div-mul-le_self bytes size in
    let less : (n + 1) * size ≤ bytes / size * size = mul-le-mul_right size (omega arith) in
    omega arith

-- room for so many
pub room_for : (size n bytes : ℕ) → n ≤ bytes / size → n * size ≤ bytes
room_for size n bytes few =
    let most : bytes / size * size ≤ bytes = div-mul-le_self bytes size in
    let less : n * size ≤ bytes / size * size = mul-le-mul_right size few in
    omega arith

-- where less is left than one digest takes, there are as many as there is room for
pub full_when : (size n bytes : ℕ) → 0 < size → n * size ≤ bytes → (bytes - n * size < size) ↔ (n ≡ bytes / size)
full_when size n bytes some within =
    let here = div-lt_iff_lt-mul {k = size} {x = bytes} {y = n} some in
    let next = div-lt_iff_lt-mul {k = size} {x = bytes} {y = n + 1} some in (
      (λ less.
          let up : bytes / size < n + 1 = next.1 (omega (arith, add-mul n 1 size)) in
          ⊎_elim (λ short. absurd (let no = here.0 short in omega arith)) (λ enough. omega arith) (cases_lt (bytes / size) n)),
      (λ is. let up = next.0 (let e : bytes / size < n + 1 = omega arith in e) in omega (arith, add-mul n 1 size)),
    )

-- the open block whose slots have one digest more
pub same_open : (size n index : ℕ) (bytes d new : List ℕ) (old : Open)
    → new ≡ take (n * size) bytes ++ (d ++ drop (n * size + length d) bytes)
    → Put size n bytes d (take (n * size) bytes ++ (d ++ drop (n * size + length d) bytes))
    → record { block_size = length bytes; digest_size = size; digests = slots size n bytes; index = index } ≡ old
    → record { block_size = length new; digest_size = size; digests = slots size (n + 1) new; index = index } ≡ record old
    { digests = old.digests ++ d ∷ [] }
same_open size n index bytes d new old is put view =
    let len : length new ≡ length bytes = ap length is ∙ put.len in
    let held : slots size (n + 1) new ≡ slots size n bytes ++ d ∷ [] = ap (λ bs. slots size (n + 1) bs) is ∙ put.slots in
    let made : List (List ℕ) → ℕ → Open = λ ds l. record { block_size = l; digest_size = size; digests = ds; index = index } in
    ap (λ l. made (slots size (n + 1) new) l) len
    ∙ ap (λ ds. made ds (length bytes)) held
    ∙ ap {A = Open} {B = Open} (λ o. record o { digests = o.digests ++ d ∷ [] }) view
