-- Lemmas on lists of blocks.
use Rattle.std.proofs.Common.{◌≡◌, refl, ℕ, zero, suc, ◌+◌, ◌-◌, ◌*◌, ◌<◌, ◌≤◌, List, [], ◌∷◌, ◌++◌, length, take, drop, replicate}
use Rattle.std.proofs.Common.{get_or, set, get_or-take, length-set, get_or-set_other, length-take, length-drop, sym, ap, ◌∙◌, arith}
use Rattle.std.proofs.Common.{subst}
use Rattle.std.proofs.Math.Nat.{suc-mul, mul-le-mul_right}
use Rattle.std.proofs.Math.Seq.{take-length, take-append_seam, drop-append_seam}
use Rattle.std.proofs.lemmas.List.{length-replicate, append-nil, nil_from_length, drop-drop, take-take, drop-take, take-append-drop}
use Rattle.std.proofs.lemmas.List.{ext_get_or, take-append-le, drop-append-le, drop-replicate, take-replicate}
use Rattle.std.proofs.lemmas.Grind.{common_steps}
use Rattle.std.specs.List.{concat}
use Rattle.std.proofs.lemmas.List.Elements.{All-nil, All-cons, All-replicate}
use Rattle.verity_profile.specs.Profile.{zero_block, AllSized}
use Rattle.verity_store.specs.Blocks.{resized, ResizedToward, ChangesAt, cut}

-- a front that agrees with a list at each of its indices is that list
pub take_same : (xs ys : List (List ℕ)) → length xs ≤ length ys → ((k : ℕ) → k < length xs → get_or ys k [] ≡ get_or xs k []) →
    take (length xs) ys ≡ xs
take_same xs ys fits same = let len : length (take (length xs) ys) ≡ length xs = simp length-take (omega arith) in
    ext_get_or [] (take (length xs) ys) xs len (λ k h. let below : k < length xs = omega arith in
    get_or-take (length xs) ys k [] below ∙ same k below)

pub length-cut : (size n : ℕ) (bytes : List ℕ) → length (cut size n bytes) ≡ n
length-cut size zero bytes = refl
length-cut size (suc n) bytes = ap suc (length-cut size n (drop size bytes))

pub AllSized-cut : (size n : ℕ) (bytes : List ℕ) → n * size ≤ length bytes → AllSized size (cut size n bytes)
AllSized-cut size zero bytes h = All-nil (λ block. length block ≡ size)
AllSized-cut size (suc n) bytes h = let e : suc n * size ≡ n * size + size = suc-mul n size in
    All-cons (λ block. length block ≡ size) (take size bytes) (cut size n (drop size bytes))
    (simp length-take (omega arith)) (AllSized-cut size n (drop size bytes) (simp length-drop (omega arith)))

pub get_or-cut : (size n : ℕ) (bytes : List ℕ) (k : ℕ) → k < n → get_or (cut size n bytes) k [] ≡ take size (drop (k * size) bytes)
get_or-cut size zero bytes k h = elim h [ ]
get_or-cut size (suc n) bytes zero h = let e : 0 * size ≡ 0 = omega arith in rw e refl
get_or-cut size (suc n) bytes (suc k) h = let e : size + k * size ≡ suc k * size = omega (arith, suc-mul k size) in
    get_or-cut size n (drop size bytes) k (omega arith) ∙ ap (take size) (drop-drop (k * size) size bytes ∙ ap (λ o. drop o bytes) e)

-- a block that is written over the bytes
pub cut-put : (block : List ℕ) (n k : ℕ) (bytes : List ℕ) → k < n → n * length block ≤ length bytes
    → cut (length block) n (take (k * length block) bytes ++ (block ++ drop (k * length block + length block) bytes)) ≡ set
    (cut (length block) n bytes) k block
cut-put block zero k bytes h fits = elim h [ ]
cut-put block (suc n) zero bytes h fits = let L = length block in let e : 0 * L ≡ 0 = omega arith in let e' : 0 + L ≡ L = omega arith in
    rw (e, e') (let R = drop L bytes in ap (λ b. b ∷ cut L n (drop L (block ++ R))) (take-append_seam block R)
    ∙ ap (λ r. block ∷ cut L n r) (drop-append_seam block R))
cut-put block (suc n) (suc k) bytes h fits = let L = length block in
    let e : suc k * L ≡ L + k * L = omega (arith, suc-mul k L) in let m : suc n * L ≡ n * L + L = suc-mul n L in
    let below : k * L ≤ n * L = mul-le-mul_right L (omega arith) in
    let o : ℕ = L + k * L in let R : List ℕ = block ++ drop (o + L) bytes in
    let long : L ≤ length (take o bytes) = simp length-take (omega arith) in
    let first : take L (take o bytes ++ R) ≡ take L bytes = take-append-le L (take o bytes) R long ∙ take-take L o bytes (omega arith) in
    let tail : drop (k * L + L) (drop L bytes) ≡ drop (o + L) bytes = drop-drop (k * L + L) L bytes
    ∙ ap (λ (j : ℕ). drop j bytes) (omega arith) in
    let rest : drop L (take o bytes ++ R) ≡ take (k * L) (drop L bytes) ++ (block ++ drop (k * L + L) (drop L bytes)) =
    drop-append-le L (take o bytes) R long ∙ ap (λ (xs : List ℕ). xs ++ R) (drop-take L (k * L) bytes)
    ∙ ap (λ (xs : List ℕ). take (k * L) (drop L bytes) ++ (block ++ xs)) (sym tail) in
    rw e (ap (λ (b : List ℕ). b ∷ cut L n (drop L (take o bytes ++ R))) first ∙ ap (λ (r : List ℕ). take L bytes ∷ cut L n r) rest
    ∙ ap (λ (bs : List (List ℕ)). take L bytes ∷ bs) (cut-put block n k (drop L bytes) (omega arith) (simp length-drop (omega arith))))

pub cut-zeros : (size m : ℕ) → cut size m (replicate (m * size) 0) ≡ replicate m (zero_block size)
cut-zeros size zero = refl
cut-zeros size (suc m) = let e : suc m * size - size ≡ m * size = omega (arith, suc-mul m size) in
    ap (λ (b : List ℕ). b ∷ cut size m (drop size (replicate (suc m * size) 0)))
    (take-replicate size (suc m * size) 0 (omega (arith, suc-mul m size)))
    ∙ ap (λ (r : List ℕ). zero_block size ∷ cut size m r) (drop-replicate size (suc m * size) 0 ∙ ap (λ (j : ℕ). replicate j 0) e)
    ∙ ap (λ (bs : List (List ℕ)). zero_block size ∷ bs) (cut-zeros size m)

no_front : (t : ℕ) → ◌++◌ {A = ℕ} (take t []) (replicate (t - 0) 0) ≡ replicate t 0
no_front t = grind (arith, common_steps)

pub cut-resize : (size n m : ℕ) (bytes : List ℕ) → length bytes ≡ n * size
    → cut size m (take (m * size) bytes ++ replicate (m * size - length bytes) 0) ≡ resized size m (cut size n bytes)
cut-resize size n zero bytes len = let e : 0 - length (cut size n bytes) ≡ 0 = omega arith in rw e refl
cut-resize size zero (suc m) bytes len =
    let t : ℕ = suc m * size in let none : length bytes ≡ 0 = omega arith in let all : suc m ≡ suc m - 0 = omega arith in
    let zeros : (bs : List ℕ) → bs ≡ [] → take t bs ++ replicate (t - length bs) 0 ≡ replicate t 0 = λ bs e. rw e (no_front t) in
    ap (cut size (suc m)) (zeros bytes (nil_from_length bytes none)) ∙ cut-zeros size (suc m)
    ∙ ap (λ (j : ℕ). replicate j (zero_block size)) all
cut-resize size (suc n) (suc m) bytes len =
    let e : suc m * size ≡ size + m * size = omega (arith, suc-mul m size) in let f : suc n * size ≡ size + n * size =
    omega (arith, suc-mul n size) in
    let t : ℕ = size + m * size in let Z : List ℕ = replicate (t - length bytes) 0 in
    let long : size ≤ length (take t bytes) = simp length-take (omega arith) in
    let first : take size (take t bytes ++ Z) ≡ take size bytes = take-append-le size (take t bytes) Z long
    ∙ take-take size t bytes (omega arith) in
    let left : length (drop size bytes) ≡ n * size = simp length-drop (omega arith) in
    let few : t - length bytes ≡ m * size - length (drop size bytes) = omega arith in
    let rest : drop size (take t bytes ++ Z) ≡ take (m * size) (drop size bytes) ++ replicate (m * size - length (drop size bytes)) 0 =
    drop-append-le size (take t bytes) Z long ∙ ap (λ (xs : List ℕ). xs ++ Z) (drop-take size (m * size) bytes)
    ∙ ap (λ (j : ℕ). take (m * size) (drop size bytes) ++ replicate j 0) few in
    let bs : List (List ℕ) = cut size n (drop size bytes) in
    let one : m - length bs ≡ suc m - suc (length bs) = omega arith in
    rw e (ap (λ (b : List ℕ). b ∷ cut size m (drop size (take t bytes ++ Z))) first
    ∙ ap (λ (r : List ℕ). take size bytes ∷ cut size m r) rest
    ∙ ap (λ (r : List (List ℕ)). take size bytes ∷ r) (cut-resize size n m (drop size bytes) left)
    ∙ ap (λ (j : ℕ). take size bytes ∷ (take m bs ++ replicate j (zero_block size))) one)

pub concat-cut : (size n : ℕ) (bytes : List ℕ) → length bytes ≡ n * size → concat (cut size n bytes) ≡ bytes
concat-cut size zero bytes len = let e : length bytes ≡ 0 = omega arith in sym (nil_from_length bytes e)
concat-cut size (suc n) bytes len = ap (λ (r : List ℕ). take size bytes ++ r)
    (concat-cut size n (drop size bytes) (simp length-drop (omega (arith, suc-mul n size)))) ∙ take-append-drop size bytes

-- where block n lies
pub place : (size blocks n : ℕ) (bytes : List ℕ) → length bytes ≡ blocks * size → n < length (cut size blocks bytes) →
    n * size + size ≤ length bytes
place size blocks n bytes whole within = let len : length (cut size blocks bytes) ≡ blocks = length-cut size blocks bytes in
    let h : suc n * size ≤ blocks * size = mul-le-mul_right size (omega arith) in omega (arith, suc-mul n size, h)

pub set-others : (xs : List (List ℕ)) (n : ℕ) (b : List ℕ) → ChangesAt n xs (set xs n b)
set-others xs n b = (length-set xs n b, λ k other. get_or-set_other xs n k b [] other)

-- what a write over the bytes makes of the blocks
pub cut-write : (size n k : ℕ) (bytes block new : List ℕ) → length block ≡ size → length bytes ≡ n * size → k < length (cut size n bytes)
    → new ≡ take (k * size) bytes ++ (block ++ drop (k * size + length block) bytes) → cut size n new ≡ set (cut size n bytes) k block
cut-write size n k bytes block new len whole within is = let below : k < n = omega (arith, length-cut size n bytes) in
    let fits : n * size ≤ length bytes = omega arith in
    ap (cut size n) is ∙ subst (λ (z : ℕ). n * z ≤ length bytes →
    cut z n (take (k * z) bytes ++ (block ++ drop (k * z + length block) bytes)) ≡ set (cut z n bytes) k block) len
    (cut-put block n k bytes below) fits

pub resized_same : (size : ℕ) (bs : List (List ℕ)) → resized size (length bs) bs ≡ bs
resized_same size bs = let none : length bs - length bs ≡ 0 = omega arith in rw (none, take-length) (append-nil bs)

pub resized_toward : (size count : ℕ) (old : List (List ℕ)) → ResizedToward size count old (resized size count old)
resized_toward size count old = (count, omega arith, omega arith, refl)

pub resized_not : (size count : ℕ) (old : List (List ℕ)) → ResizedToward size count old old
resized_not size count old = (length old, omega arith, omega arith, sym (resized_same size old))

pub AllSized-replicate : (size n : ℕ) → AllSized size (replicate n (zero_block size))
AllSized-replicate size n = All-replicate (λ block. length block ≡ size) n (zero_block size) (length-replicate size 0)
