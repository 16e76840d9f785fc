-- The blocks of a file whose bytes may be known.
use Rattle.std.proofs.Common.{◌≡◌, refl, ℕ, zero, suc, ◌+◌, ◌-◌, ◌*◌, ◌/◌, ◌<◌, ◌≤◌, true, Option, None, Some, List, [], ◌∷◌, ◌++◌}
use Rattle.std.proofs.Common.{length, take, drop, replicate, get_or, set, length-take, length-drop, length-append, Bool, false}
use Rattle.std.proofs.Common.{⊎_elim, inl, inr, sym, ap, subst, ◌∙◌, arith}
use Rattle.std.proofs.Math.Nat.{suc-mul, add-mul, mul-le-mul_right, mul-div_cancel}
use Rattle.std.proofs.lemmas.Bool.{false≢true}
use Rattle.std.proofs.lemmas.List.{length-replicate, drop-drop, drop-take, take-take}
use Rattle.std.specs.Fork.{slice_chunk}
use Rattle.std.specs.Prelude.{IfSome}
use Rattle.std.specs.List.{concat}
use Rattle.verity_profile.specs.Profile.{zero_block, AllSized}
use Rattle.verity_store.specs.Blocks.{resized, ChangesAt, cut}
use Rattle.verity_store.specs.RawFile.{overwritten, known_len, HasLength, Reads, Writes, SetsLength, MaySetLength, is_known, file_blocks}
use Rattle.verity_store.proofs.BlockLemmas.{length-cut, AllSized-cut, AllSized-replicate, get_or-cut, cut-write, cut-resize}
use Rattle.verity_store.proofs.BlockLemmas.{set-others, concat-cut, resized_same}

pub length-file_blocks : (size n : ℕ) (known : Option (List ℕ)) → length (file_blocks size n known) ≡ n
length-file_blocks size n None = length-replicate n (zero_block size)
length-file_blocks size n (Some bytes) = length-cut size n bytes

pub AllSized-file_blocks : (size n : ℕ) (known : Option (List ℕ)) → HasLength known (n * size) → AllSized size (file_blocks size n known)
AllSized-file_blocks size n None len = AllSized-replicate size n
AllSized-file_blocks size n (Some bytes) len = AllSized-cut size n bytes (omega arith)

-- where block k of n lies
pub file_place : (size n k : ℕ) (known : Option (List ℕ)) → k < length (file_blocks size n known) → k * size + size ≤ n * size
file_place size n k known within = let len : length (file_blocks size n known) ≡ n = length-file_blocks size n known in
    let h : suc k * size ≤ n * size = mul-le-mul_right size (omega arith) in omega (arith, suc-mul k size, h)

-- a part of the file is inside its known bytes
pub file_within : (known : Option (List ℕ)) (total end : ℕ) → HasLength known total → end ≤ total → end ≤ known_len known end
file_within None total end len h = omega arith
file_within (Some bytes) total end len h = omega arith

pub file_read : (size n k : ℕ) (known : Option (List ℕ)) (given : List ℕ) → k < length (file_blocks size n known) →
    length given ≡ size → Reads known (k * size) given
    → is_known known ≡ true → get_or (file_blocks size n known) k [] ≡ given
file_read size n k None given within len reads tells = cc
file_read size n k (Some bytes) given within len reads tells = let below : k < n = omega (arith, length-cut size n bytes) in
    get_or-cut size n bytes k below ∙ ap (λ (m : ℕ). take m (drop (k * size) bytes)) (sym len) ∙ sym reads

-- a block within a run of bytes
chunk_at : (size first count j : ℕ) (bytes given : List ℕ) → length given ≡ count * size →
    given ≡ take (length given) (drop (first * size) bytes) → j < count
    → take size (drop ((first + j) * size) bytes) ≡ slice_chunk given size j
chunk_at size first count j bytes given len is below =
    let m : ℕ = j * size in
    let left : ℕ = count * size - m in
    let next : suc j * size ≤ count * size = mul-le-mul_right size (omega arith) in
    let room : m + size ≤ count * size = omega (arith, next, suc-mul j size) in
    let whole : count * size ≡ m + left = omega (arith, room) in
    let place : first * size + m ≡ (first + j) * size = omega (arith, add-mul first j size) in
    let behind : List ℕ = drop (first * size) bytes in
    let same : given ≡ take (m + left) behind = is ∙ ap (λ n. take n behind) (len ∙ whole) in
    sym
    (ap (λ xs. take size (drop m xs)) same
    ∙ ap (take size) (drop-take m left behind)
    ∙ take-take size left (drop m behind) (omega (arith, room))
    ∙ ap (take size) (drop-drop m (first * size) bytes ∙ ap (λ n. drop n bytes) place))

-- each block of a run that is read at once
pub file_run : (size n first count : ℕ) (known : Option (List ℕ)) (given : List ℕ) →
    first + count ≤ length (file_blocks size n known) → length given ≡ count * size
    → Reads known (first * size) given → is_known known ≡ true → (j : ℕ) → j < count →
    get_or (file_blocks size n known) (first + j) [] ≡ slice_chunk given size j
file_run size n first count None given within len reads tells j below = cc
file_run size n first count (Some bytes) given within len reads tells j below =
    get_or-cut size n bytes (first + j) (omega (arith, length-cut size n bytes)) ∙ chunk_at size first count j bytes given len reads below

-- where a run begins in the file
pub file_start : (size n first : ℕ) (known : Option (List ℕ)) → first ≤ length (file_blocks size n known) → first * size ≤ n * size
file_start size n first known within = mul-le-mul_right size (omega (arith, length-file_blocks size n known))

pub length-overwritten : (at : ℕ) (written bytes : List ℕ) → at + length written ≤ length bytes →
    length (overwritten at written bytes) ≡ length bytes
length-overwritten at written bytes fits = simp (length-append, length-take, length-drop) (omega arith)

pub file_write_known : (at : ℕ) (old new : Option (List ℕ)) (block : List ℕ) → Writes old new at block → is_known new ≡ is_known old
file_write_known at None new block is = ap is_known is
file_write_known at (Some bytes) new block is = ap is_known is

pub file_write_len : (size n k : ℕ) (old new : Option (List ℕ)) (block : List ℕ) → HasLength old (n * size) →
    k < length (file_blocks size n old) → length block ≡ size
    → Writes old new (k * size) block → HasLength new (n * size)
file_write_len size n k None new block whole within len is = rw is refl
file_write_len size n k (Some bytes) new block whole within len is = let p = file_place size n k (Some bytes) within in
    rw is (length-overwritten (k * size) block bytes (omega arith) ∙ whole)

pub file_written : (size n k : ℕ) (old new : Option (List ℕ)) (block : List ℕ) → HasLength old (n * size) →
    k < length (file_blocks size n old) → length block ≡ size
    → Writes old new (k * size) block → is_known old ≡ true → file_blocks size n new ≡ set (file_blocks size n old) k block
file_written size n k None new block whole within len is tells = cc
file_written size n k (Some bytes) new block whole within len is tells = ap (file_blocks size n) is
    ∙ cut-write size n k bytes block (overwritten (k * size) block bytes) len whole within refl

pub file_others : (size n k : ℕ) (old new : Option (List ℕ)) (block : List ℕ) → HasLength old (n * size) →
    k < length (file_blocks size n old) → length block ≡ size
    → Writes old new (k * size) block → ChangesAt k (file_blocks size n old) (file_blocks size n new)
file_others size n k None new block whole within len is = rw is (refl, λ _ _. refl)
file_others size n k (Some bytes) new block whole within len is =
    rw (file_written size n k (Some bytes) new block whole within len is refl) (set-others (cut size n bytes) k block)

resized-zeros : (m n : ℕ) (z : List ℕ) → replicate m z ≡ take m (replicate n z) ++ replicate (m - length (replicate n z)) z
resized-zeros zero n z = let e : 0 - length (replicate n z) ≡ 0 = omega arith in rw e refl
resized-zeros (suc m) zero z = let e : suc m - 0 ≡ suc m = omega arith in rw e refl
resized-zeros (suc m) (suc n) z = let e : suc m - suc (length (replicate n z)) ≡ m - length (replicate n z) = omega arith in
    rw e (ap (λ (r : List (List ℕ)). z ∷ r) (resized-zeros m n z))

pub file_resized : (size n m : ℕ) (old new : Option (List ℕ)) → HasLength old (n * size) → SetsLength old new (m * size)
    → file_blocks size m new ≡ resized size m (file_blocks size n old)
file_resized size n m None new whole is = rw is (resized-zeros m n (zero_block size))
file_resized size n m (Some bytes) new whole is = ap (file_blocks size m) is ∙ cut-resize size n m bytes whole

pub file_resized_len : (m : ℕ) (old new : Option (List ℕ)) → SetsLength old new m → HasLength new m
file_resized_len m None new is = rw is refl
file_resized_len m (Some bytes) new is = rw is (simp (length-append, length-take, length-replicate) (omega arith))

-- the blocks of known bytes, joined, are the bytes
pub concat-file_blocks : (size n : ℕ) (known : Option (List ℕ)) → HasLength known (n * size) →
    IfSome known (λ bytes. concat (file_blocks size n known) ≡ bytes)
concat-file_blocks size n None whole = tt
concat-file_blocks size n (Some bytes) whole = concat-cut size n bytes whole

-- a length at which the file stayed is its own
file_stays : (size n m : ℕ) (known : Option (List ℕ)) → 0 < size → HasLength known (n * size) → HasLength known (m * size) →
    file_blocks size m known ≡ resized size m (file_blocks size n known)
file_stays size n m None some whole is = resized-zeros m n (zero_block size)
file_stays size n m (Some bytes) some whole is =
    let blocks : List (List ℕ) = cut size n bytes in
    let same : m ≡ n = sym (mul-div_cancel m some) ∙ ap (λ (k : ℕ). k / size) (sym is ∙ whole) ∙ mul-div_cancel n some in
    let all : m ≡ length blocks = same ∙ sym (length-cut size n bytes) in
    ap (λ (j : ℕ). cut size j bytes) same ∙ sym (resized_same size blocks) ∙ ap (λ (j : ℕ). resized size j blocks) (sym all)

-- after an error, a file that has the new length was resized to it
pub file_told : (size n m : ℕ) (old new : Option (List ℕ)) → 0 < size → HasLength old (n * size) → MaySetLength old new (m * size) →
    HasLength new (m * size)
    → file_blocks size m new ≡ resized size m (file_blocks size n old)
file_told size n m old new some whole may is =
    ⊎_elim
    (λ same. let there : HasLength old (m * size) = subst (λ known. HasLength known (m * size)) same is in
    ap (file_blocks size m) same ∙ file_stays size n m old some whole there)
    (λ set. file_resized size n m old new whole set)
    may

-- and one that has it not stayed as it was
pub file_kept : (m : ℕ) (old new : Option (List ℕ)) (told : Bool) → MaySetLength old new m →
    (is_known new ≡ true → HasLength new m → told ≡ true) → told ≡ false → new ≡ old
file_kept m old new told (inl same) says not_told = same
file_kept m None new told (inr set) says not_told = set
file_kept m (Some bytes) new told (inr set) says not_told =
    let known : is_known new ≡ true = ap is_known set in
    absurd (false≢true (sym not_told ∙ says known (file_resized_len m (Some bytes) new set)))
