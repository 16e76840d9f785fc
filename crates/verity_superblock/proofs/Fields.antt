-- The fields of a superblock, put and read back.
use Rattle.std.proofs.Common.{◌≡◌, ℕ, zero, suc, ◌+◌, ◌-◌, ◌*◌, ◌^◌, ◌<◌, ◌≤◌, ◌==◌, List, [], ◌∷◌, ◌++◌, length, take, drop}
use Rattle.std.proofs.Common.{replicate, refl, sym, ap, ◌∙◌, arith, subst}
use Rattle.std.specs.Prelude.{slice_range, codes}
use Rattle.std.specs.List.{concat, before_first}
use Rattle.std.proofs.lemmas.List.{length-append, length-replicate, append_assoc, append-nil, take_at, drop_at, drop-drop}
use Rattle.std.proofs.lemmas.List.{drop-replicate, replicate-append-replicate, take-take, length-take-le, length-drop}
use Rattle.byteorder.specs.Endian.{little_number, little_bytes}
use Rattle.byteorder.specs.Numbers.{little_number-reads_back}
use Rattle.verity_digest.specs.declared.algorithm.Algorithm.{Algorithm}
use Rattle.verity_digest.specs.declared.algorithm.Algorithm.TheVariants.{Sha256, Sha512}
use Rattle.verity_digest.specs.Hash.{name_of}
use Rattle.verity_profile.proofs.Bounds.{block_size_high, block_count_high}
use Rattle.verity_superblock.specs.Superblock.{Params, IsProfile, superblock, fields, zero_filled, IsPut}
use Rattle.verity_superblock.specs.Reading.{Reads}

-- the part of n bytes from a place on has n bytes
pub length-within : (bytes : List ℕ) (a n : ℕ) → a + n ≤ length bytes → length (slice_range bytes a (a + n)) ≡ n
length-within bytes a n h =
    let k : a + n - a ≡ n = omega arith in
    ap (λ m. length (take m (drop a bytes))) k ∙ length-take-le n (drop a bytes) (omega (arith, length-drop a bytes))

-- a part is the front of a longer one from the same place on
part-take : (bytes : List ℕ) (a k m : ℕ) → k ≤ m → slice_range bytes a (a + k) ≡ take k (slice_range bytes a (a + m))
part-take bytes a k m h =
    let few : a + k - a ≡ k = omega arith in
    let many : a + m - a ≡ m = omega arith in
    ap (λ i. take i (drop a bytes)) few ∙ sym (take-take k m (drop a bytes) h) ∙ ap (λ i. take k (take i (drop a bytes))) (sym many)

-- where a field begins, behind the fields before it
abbrev begin : ℕ → List (List ℕ) → ℕ
begin zero fs = 0
begin (suc i) [] = 0
begin (suc i) (f ∷ fs) = length f + begin i fs

-- the field at a place
abbrev nth : ℕ → List (List ℕ) → List ℕ
nth i [] = []
nth zero (f ∷ fs) = f
nth (suc i) (f ∷ fs) = nth i fs

nth-within : (fs : List (List ℕ)) (i : ℕ) (rest : List ℕ) → i < length fs →
    take (length (nth i fs)) (drop (begin i fs) (concat fs ++ rest)) ≡ nth i fs
nth-within [] i rest l = absurd (omega arith)
nth-within (f ∷ fs) zero rest l =
    ap (λ bytes. take (length f) bytes) (append_assoc f (concat fs) rest) ∙ take_at f (concat fs ++ rest) (length f) refl
nth-within (f ∷ fs) (suc i) rest l =
    ap (λ bytes. take (length (nth i fs)) (drop (length f + begin i fs) bytes)) (append_assoc f (concat fs) rest)
    ∙ ap (λ bytes. take (length (nth i fs)) bytes) (sym (drop-drop (begin i fs) (length f) (f ++ (concat fs ++ rest))))
    ∙ ap (λ bytes. take (length (nth i fs)) (drop (begin i fs) bytes)) (drop_at f (concat fs ++ rest) (length f) refl)
    ∙ nth-within fs i rest (omega arith)

-- field i stands from a to b
nth-concat : (fs : List (List ℕ)) (i a b : ℕ) (rest : List ℕ) → i < length fs → begin i fs ≡ a → length (nth i fs) ≡ b - a →
    slice_range (concat fs ++ rest) a b ≡ nth i fs
nth-concat fs i a b rest l s e =
    ap (λ n. take n (drop a (concat fs ++ rest))) (sym e)
    ∙ ap (λ n. take (length (nth i fs)) (drop n (concat fs ++ rest))) (sym s)
    ∙ nth-within fs i rest l

pub length-zero_filled : (size : ℕ) (bytes : List ℕ) → length bytes ≤ size → length (zero_filled size bytes) ≡ size
length-zero_filled size bytes fits = omega (
  arith,
  length-append bytes (replicate (size - length bytes) 0),
  length-replicate {A = ℕ} (size - length bytes) 0,
)

length-concat : (fs : List (List ℕ)) → length (concat fs) ≡ begin (length fs) fs
length-concat [] = refl
length-concat (f ∷ fs) = omega (arith, length-append f (concat fs), length-concat fs)

length-named : (a : Algorithm) → length (zero_filled 32 (name_of a)) ≡ 32
length-named Sha256 = refl
length-named Sha512 = refl

named : (a : Algorithm) → before_first (λ b. b == 0) (zero_filled 32 (name_of a)) ≡ name_of a
named Sha256 = refl
named Sha512 = refl

pub length-superblock : (p : Params) (n : ℕ) → IsProfile p n → length (superblock p n) ≡ 512
unfolding fields
length-superblock p n ok =
    length-concat (fields p n) ∙ omega (arith, ok.uuid, length-named p.algorithm, length-zero_filled 256 p.salt ok.salt)

-- a number reads as what was written
number_back : (n x : ℕ) → x < 256 ^ n → little_number n (little_bytes n x) ≡ x
number_back n x fits = ap (λ bytes. little_number n bytes) (sym (append-nil (little_bytes n x))) ∙ little_number-reads_back n x [] fits

pub reads-superblock : (p : Params) (n : ℕ) (rest : List ℕ) → IsProfile p n → Reads (superblock p n ++ rest) p n
unfolding fields
reads-superblock p n rest ok =
    let salted = length-zero_filled 256 p.salt ok.salt in
    let name = length-named p.algorithm in
    let data_high = block_size_high p.data_block_size ok.data_size in
    let hash_high = block_size_high p.hash_block_size ok.hash_size in
    let count_high = block_count_high n ok.count in
    let salt_high = ok.salt in
    let size : little_number 2 (slice_range (superblock p n ++ rest) 80 82) ≡ length p.salt =
    ap (λ bytes. little_number 2 bytes) (nth-concat (fields p n) 8 80 82 rest (omega arith) (omega (arith, ok.uuid, name)) refl)
    ∙ number_back 2 (length p.salt) (omega arith) in
    record {
      whole = omega (arith, length-superblock p n ok, length-append (superblock p n) rest);
      signature = nth-concat (fields p n) 0 0 8 rest (omega arith) refl refl;
      version = ap (λ bytes. little_number 4 bytes) (nth-concat (fields p n) 1 8 12 rest (omega arith) refl refl);
      hash_type = ap (λ bytes. little_number 4 bytes) (nth-concat (fields p n) 2 12 16 rest (omega arith) refl refl);
      uuid = nth-concat (fields p n) 3 16 32 rest (omega arith) refl ok.uuid;
      algorithm = ap (λ bytes. before_first (λ b. b == 0) bytes) (nth-concat (fields p n) 4 32 64 rest (omega arith)
          (omega (arith, ok.uuid)) name) ∙ named p.algorithm;
      data_size = ap (λ bytes. little_number 4 bytes) (nth-concat (fields p n) 5 64 68 rest (omega arith)
          (omega (arith, ok.uuid, name)) refl)
          ∙ number_back 4 p.data_block_size (omega arith);
      hash_size = ap (λ bytes. little_number 4 bytes) (nth-concat (fields p n) 6 68 72 rest (omega arith)
          (omega (arith, ok.uuid, name)) refl)
          ∙ number_back 4 p.hash_block_size (omega arith);
      count = ap (λ bytes. little_number 8 bytes) (nth-concat (fields p n) 7 72 80 rest (omega arith) (omega (arith, ok.uuid, name)) refl)
          ∙ number_back 8 n (omega arith);
      salt_size = size;
      salt = ap (λ k. slice_range (superblock p n ++ rest) 88 (88 + k)) size ∙ part-take (superblock p n ++ rest) 88 (length p.salt)
          256 ok.salt
          ∙ ap (λ bytes. take (length p.salt) bytes) (nth-concat (fields p n) 10 88 344 rest (omega arith)
          (omega (arith, ok.uuid, name)) salted)
          ∙ take_at p.salt (replicate (256 - length p.salt) 0) (length p.salt) refl;
    }

-- ---- a superblock, field after field

-- a block that begins with these bytes, of which there are n, and is zeros from there on
pub record Begins (block : List ℕ) (n : ℕ) (done : List ℕ) : Type 0 where
  pub is : block ≡ done ++ replicate (512 - n) 0
  pub len : length done ≡ n

put-next : (n k : ℕ) (old done field new : List ℕ) → Begins old n done → IsPut old n field new → length field ≡ k → n + k ≤ 512 →
    Begins new (n + k) (done ++ field)
put-next n k old done field new begins put size fits =
    let front : take n old ≡ done = ap (λ bytes. take n bytes) begins.is ∙ take_at done (replicate (512 - n) 0) n begins.len in
    let left : 512 - n - k ≡ 512 - (n + k) = omega arith in
    let back : drop (n + length field) old ≡ replicate (512 - (n + k)) 0 =
    ap (λ m. drop (n + m) old) size ∙ ap (λ bytes. drop (n + k) bytes) begins.is ∙ sym (drop-drop k n (done ++ replicate (512 - n) 0))
    ∙ ap (λ bytes. drop k bytes) (drop_at done (replicate (512 - n) 0) n begins.len) ∙ drop-replicate k (512 - n) 0
    ∙ ap (λ m. replicate m 0) left in
    record {
      is = put ∙ ap (λ x. x ++ (field ++ drop (n + length field) old)) front ∙ ap (λ x. done ++ (field ++ x)) back
          ∙ sym (append_assoc done field (replicate (512 - (n + k)) 0));
      len = omega (arith, length-append done field, begins.len, size);
    }

skip-zeros : (n k m : ℕ) (block done : List ℕ) → Begins block n done → n + k ≡ m → m ≤ 512 → Begins block m (done ++ replicate k 0)
skip-zeros n k m block done begins e fits =
    let left : 512 - n ≡ k + (512 - m) = omega arith in
    record {
      is = begins.is ∙ ap (λ i. done ++ replicate i 0) left ∙ ap (λ x. done ++ x) (sym (replicate-append-replicate k (512 - m) 0))
          ∙ sym (append_assoc done (replicate k 0) (replicate (512 - m) 0));
      len = omega (arith, length-append done (replicate k 0), length-replicate {A = ℕ} k 0, begins.len);
    }

-- the fields that are put, and what is left free behind the name and the salt size
joined : (a b c d e f g h i j k l m : List ℕ)
    → (((((((((((a ++ b) ++ c) ++ d) ++ e) ++ f) ++ g) ++ h) ++ i) ++ j) ++ k) ++ l) ++ m ≡ a ++
    (b ++ (c ++ (d ++ ((e ++ f) ++ (g ++ (h ++ (i ++ (j ++ (k ++ (l ++ m))))))))))
joined a b c d e f g h i j k l m = simp append_assoc

length-name : (a : Algorithm) → length (name_of a) ≡ 6
length-name Sha256 = refl
length-name Sha512 = refl

pub record ArePut (p : Params) (n : ℕ) (b1 b2 b3 b4 b5 b6 b7 b8 b9 b10 : List ℕ) : Type 0 where
  pub signature : IsPut (replicate 512 0) 0 (zero_filled 8 (codes "verity")) b1
  pub version : IsPut b1 8 (little_bytes 4 1) b2
  pub hash_type : IsPut b2 12 (little_bytes 4 1) b3
  pub uuid : IsPut b3 16 p.uuid b4
  pub algorithm : IsPut b4 32 (name_of p.algorithm) b5
  pub data_size : IsPut b5 64 (little_bytes 4 p.data_block_size) b6
  pub hash_size : IsPut b6 68 (little_bytes 4 p.hash_block_size) b7
  pub count : IsPut b7 72 (little_bytes 8 n) b8
  pub salt_size : IsPut b8 80 (little_bytes 2 (length p.salt)) b9
  pub salt : IsPut b9 88 p.salt b10

-- what the fields that are put make, where all else is zeros
pub puts-superblock : (p : Params) (n : ℕ) (b1 b2 b3 b4 b5 b6 b7 b8 b9 b10 : List ℕ) → IsProfile p n →
    ArePut p n b1 b2 b3 b4 b5 b6 b7 b8 b9 b10 → b10 ≡ superblock p n
unfolding fields
puts-superblock p n b1 b2 b3 b4 b5 b6 b7 b8 b9 b10 ok puts =
    let sig = zero_filled 8 (codes "verity") in
    let one = little_bytes 4 1 in
    let name = name_of p.algorithm in
    let ds = little_bytes 4 p.data_block_size in
    let hs = little_bytes 4 p.hash_block_size in
    let ns = little_bytes 8 n in
    let ss = little_bytes 2 (length p.salt) in
    let named_len = length-name p.algorithm in
    let salt_len = ok.salt in
    let at0 : Begins (replicate 512 0) 0 [] = record { is = refl; len = refl } in
    let at8 = put-next 0 8 (replicate 512 0) [] sig b1 at0 puts.signature refl (omega arith) in
    let at12 = put-next 8 4 b1 sig one b2 at8 puts.version refl (omega arith) in
    let at16 = put-next 12 4 b2 (sig ++ one) one b3 at12 puts.hash_type refl (omega arith) in
    let at32 = put-next 16 16 b3 ((sig ++ one) ++ one) p.uuid b4 at16 puts.uuid ok.uuid (omega arith) in
    let at38 = put-next 32 6 b4 (((sig ++ one) ++ one) ++ p.uuid) name b5 at32 puts.algorithm named_len (omega arith) in
    let at64 = skip-zeros 38 26 64 b5 ((((sig ++ one) ++ one) ++ p.uuid) ++ name) at38 refl (omega arith) in
    let to64 = ((((sig ++ one) ++ one) ++ p.uuid) ++ name) ++ replicate 26 0 in
    let at68 = put-next 64 4 b5 to64 ds b6 at64 puts.data_size refl (omega arith) in
    let at72 = put-next 68 4 b6 (to64 ++ ds) hs b7 at68 puts.hash_size refl (omega arith) in
    let at80 = put-next 72 8 b7 ((to64 ++ ds) ++ hs) ns b8 at72 puts.count refl (omega arith) in
    let at82 = put-next 80 2 b8 (((to64 ++ ds) ++ hs) ++ ns) ss b9 at80 puts.salt_size refl (omega arith) in
    let at88 = skip-zeros 82 6 88 b9 ((((to64 ++ ds) ++ hs) ++ ns) ++ ss) at82 refl (omega arith) in
    let to88 = ((((to64 ++ ds) ++ hs) ++ ns) ++ ss) ++ replicate 6 0 in
    let end = put-next 88 (length p.salt) b9 to88 p.salt b10 at88 puts.salt refl (omega arith) in
    let left : 512 - (88 + length p.salt) ≡ (256 - length p.salt) + 168 = omega arith in
    let free : replicate (512 - (88 + length p.salt)) 0 ≡ replicate (256 - length p.salt) 0 ++ (replicate 168 0 ++ []) =
    ap (λ i. replicate i 0) left ∙ sym (replicate-append-replicate (256 - length p.salt) 168 0)
    ∙ ap (λ x. replicate (256 - length p.salt) 0 ++ x) (sym (append-nil (replicate 168 0))) in
    let pad : 26 ≡ 32 - length name = omega arith in
    end.is ∙ ap (λ x. (to88 ++ p.salt) ++ x) free
    ∙ joined sig one one p.uuid name (replicate 26 0) ds hs ns ss (replicate 6 0) p.salt
    (replicate (256 - length p.salt) 0 ++ (replicate 168 0 ++ []))
    ∙ ap (λ i. sig ++ (one ++ (one ++ (p.uuid ++
    ((name ++ replicate i 0) ++ (ds ++ (hs ++
    (ns ++ (ss ++ (replicate 6 0 ++ (p.salt ++ (replicate (256 - length p.salt) 0 ++ (replicate 168 0 ++ []))))))))))))) pad
    ∙ ap (λ x. sig ++ (one ++ (one ++ (p.uuid ++ (zero_filled 32 name ++ (ds ++ (hs ++ (ns ++ (ss ++ (replicate 6 0 ++ x))))))))))
    (sym (append_assoc p.salt (replicate (256 - length p.salt) 0) (replicate 168 0 ++ [])))
