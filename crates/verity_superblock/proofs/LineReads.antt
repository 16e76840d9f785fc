-- What a table line without a refusal says.
use Rattle.std.proofs.Common.{◌≡◌, ℕ, ◌+◌, ◌*◌, ◌/◌, ◌%◌, ◌^◌, ◌<◌, ◌≤◌, ◌==◌, Bool, true, false, List, [], ◌∷◌, ◌++◌, length}
use Rattle.std.proofs.Common.{Option, Some, None, Result, Ok, Err, refl, sym, ap, ◌∙◌, arith, lit<, ◌⊎◌, inl, inr, subst}
use Rattle.std.specs.Prelude.{not, ◌&&◌, ◌||◌, nat_le, codes, if◌then◌else◌, slice_index_or}
use Rattle.std.specs.List.{list_all}
use Rattle.std.specs.Option.{option_or, MatchOption}
use Rattle.std.specs.Result.{result_unwrap_or, IsOkUnless}
use Rattle.std.specs.Cmp.Lexicographic.{same_text}
use Rattle.std.proofs.lemmas.Bool.{true_from_ne_false, and_from, and_parts, cases_Bool, or_cases, or_left, or_right, eqb-true}
use Rattle.std.proofs.lemmas.Bool.{leb-true, le-leb}
use Rattle.hex.specs.Hex.{decode_of, is_hex_digit, IsBytes}
use Rattle.hex.specs.declared.error.FromHexError.{FromHexError}
use Rattle.hex.proofs.HexLemmas.{decode_of-ok, decode_of-same, decode_of-digits}
use Rattle.std.proofs.lemmas.List.Sums.{AllPass-from_list_all}
use Rattle.verity_digest.specs.declared.algorithm.Algorithm.{Algorithm}
use Rattle.verity_digest.specs.declared.algorithm.Algorithm.TheVariants.{Sha256, Sha512}
use Rattle.verity_digest.specs.Hash.{name_of, size_of}
use Rattle.verity_profile.specs.Profile.{is_block_size, is_block_count}
use Rattle.verity_superblock.specs.declared.faults.TableFault.{TableFault}
use Rattle.verity_superblock.specs.declared.faults.TableFault.TheVariants as fault
use Rattle.verity_superblock.specs.Reading.{is_text}
use Rattle.verity_superblock.specs.Line.{TableLine, IsTableLine, Line, IsNumber, IsSaltOf, fields_of, field, has_ten_fields}
use Rattle.verity_superblock.specs.Line.{is_number, number, is_path, is_name, is_hex, digest_digits, is_salt, is_hex_salt}
use Rattle.verity_superblock.specs.Line.{shape_refusal, numbers_refusal, digest_refusal, salt_refusal, line_refusal, algorithm_of}
use Rattle.verity_superblock.proofs.InTurn.{one-taken, one-refused, or-first, two-none, one-none, three-none, or-none_first, or-next}
use Rattle.verity_superblock.proofs.Readings.{FourNumbers, IsHexSalt, all_numbers-parts, is_hex_salt-parts, parts-is_hex_salt}
use Rattle.verity_superblock.proofs.SuperblockLaws.{algorithm_named, same_algorithm}
use Rattle.verity_superblock.proofs.Splits.{field-is_path}

-- ---- the parts of no refusal

pub record NoRefusal (text : List ℕ) : Type 0 where
  pub ten : has_ten_fields text ≡ true
  pub version : field text 0 ≡ codes "1"
  pub numbers : FourNumbers (field text 3) (field text 4) (field text 5) (field text 6)
  pub data_size : is_block_size (number (field text 3)) ≡ true
  pub hash_size : is_block_size (number (field text 4)) ≡ true
  pub count : is_block_count (number (field text 5)) ≡ true
  pub start : number (field text 6) ≤ 2 ^ 40
  pub name : is_name (field text 7) ≡ true
  pub digest : is_hex (digest_digits (field text 7)) (field text 8) ≡ true
  pub salt : is_salt (field text 9) ≡ true

abbrev numbers_of : List ℕ → Option TableFault
numbers_of text = numbers_refusal (field text 3) (field text 4) (field text 5) (field text 6)

abbrev later_of : List ℕ → Option TableFault
later_of text = option_or (digest_refusal (field text 7) (field text 8)) (salt_refusal (field text 9))

pub no_refusal : (text : List ℕ) → line_refusal text ≡ None → NoRefusal text
unfolding line_refusal
no_refusal text h =
    let shape_none = or-none_first (shape_refusal text) (option_or (numbers_of text) (later_of text)) h in
    let after_shape = sym (or-next (shape_refusal text) (option_or (numbers_of text) (later_of text)) shape_none) ∙ h in
    let numbers_none = or-none_first (numbers_of text) (later_of text) after_shape in
    let after_numbers = sym (or-next (numbers_of text) (later_of text) numbers_none) ∙ after_shape in
    let digest_none = or-none_first (digest_refusal (field text 7) (field text 8)) (salt_refusal (field text 9)) after_numbers in
    let salt_none = sym (sym (or-next (digest_refusal (field text 7) (field text 8)) (salt_refusal (field text 9)) digest_none)
    ∙ after_numbers) in
    let shape = two-none (has_ten_fields text) (is_text (field text 0) (codes "1")) fault.Fields fault.Version shape_none in
    let numbers = three-none (is_number (field text 3) &&
    (is_number (field text 4) && (is_number (field text 5) && is_number (field text 6))))
    (is_block_size (number (field text 3)) && is_block_size (number (field text 4)))
    (is_block_count (number (field text 5)) && nat_le (number (field text 6)) (2 ^ 40))
    fault.Number fault.Size fault.Count numbers_none in
    let sizes = and_parts (is_block_size (number (field text 3))) (is_block_size (number (field text 4))) numbers.second in
    let counts = and_parts (is_block_count (number (field text 5))) (nat_le (number (field text 6)) (2 ^ 40)) numbers.third in
    let digest = two-none (is_name (field text 7)) (is_hex (digest_digits (field text 7)) (field text 8)) fault.Algorithm
    fault.Digest digest_none in
    record {
      ten = shape.0;
      version = same_text (field text 0) (codes "1") (sym shape.1);
      numbers = all_numbers-parts (field text 3) (field text 4) (field text 5) (field text 6) numbers.first;
      data_size = sizes.0;
      hash_size = sizes.1;
      count = counts.0;
      start = leb-true (number (field text 6)) (2 ^ 40) counts.1;
      name = digest.0;
      digest = digest.1;
      salt = one-none (is_salt (field text 9)) fault.Salt salt_none;
    }

-- ---- the root hash and the salt

-- a digest of an algorithm's name has its size
root-sized : (a : Algorithm) (name digits root : List ℕ) → name ≡ name_of a → is_hex (digest_digits name) digits ≡ true →
    decode_of digits ≡ Ok root → length root ≡ size_of a
root-sized Sha256 name digits root e hex read =
    let read_len = (decode_of-ok digits root read).2 in
    let len = eqb-true (length digits) 64 (and_parts (length digits == 64) (list_all is_hex_digit digits)
    (subst (λ (n : List ℕ). is_hex (digest_digits n) digits ≡ true) e hex)).0 in
    omega arith
root-sized Sha512 name digits root e hex read =
    let read_len = (decode_of-ok digits root read).2 in
    let len = eqb-true (length digits) 128 (and_parts (length digits == 128) (list_all is_hex_digit digits)
    (subst (λ (n : List ℕ). is_hex (digest_digits n) digits ≡ true) e hex)).0 in
    omega arith

pub algorithm_of-sized : (a : Algorithm) (root : List ℕ) → length root ≡ size_of a → algorithm_of root ≡ a
algorithm_of-sized Sha256 root len = ap (λ n. if n == 32 then Sha256 else Sha512) len
algorithm_of-sized Sha512 root len = ap (λ n. if n == 32 then Sha256 else Sha512) len

same_ok : (a b : List ℕ) → Path (Result (List ℕ) FromHexError) (Ok a) (Ok b) → a ≡ b
same_ok a b e = ap (λ (r : Result (List ℕ) FromHexError). result_unwrap_or r []) e

-- the salt of a field
salt-empty : (digits salt : List ℕ) → is_text digits (codes "-") ≡ true → IsSaltOf digits salt → salt ≡ []
salt-empty digits salt e read = sym (same_ok [] salt (sym (ap (λ t. if t then Ok [] else decode_of digits) e) ∙ read))

salt-decoded : (digits salt : List ℕ) → is_text digits (codes "-") ≡ false → IsSaltOf digits salt → decode_of digits ≡ Ok salt
salt-decoded digits salt e read = sym (ap (λ t. if t then Ok [] else decode_of digits) e) ∙ read

no_bytes : IsBytes []
no_bytes i = lit< tt

even_digits : (a : Algorithm) (name : List ℕ) (n : ℕ) → name ≡ name_of a → n ≡ digest_digits name → n % 2 ≡ 0
even_digits Sha256 name n e len = let l = len ∙ ap digest_digits e in omega arith
even_digits Sha512 name n e len = let l = len ∙ ap digest_digits e in omega arith

hex_digits : (digits : List ℕ) → is_salt digits ≡ true → is_text digits (codes "-") ≡ false → IsHexSalt digits
hex_digits digits ok other = elim (or_cases (is_text digits (codes "-")) (is_hex_salt digits) ok) [
  | inl dash ↦ cc
  | inr hex ↦ is_hex_salt-parts digits hex
]

pub salt-values : (digits salt : List ℕ) → is_salt digits ≡ true → IsSaltOf digits salt → (length salt ≤ 256) × IsBytes salt
salt-values digits salt ok read = elim (cases_Bool (is_text digits (codes "-"))) [
  | inl dash ↦
      let none = salt-empty digits salt dash read in
      (omega (arith, ap length none), subst (λ (s : List ℕ). IsBytes s) (sym none) no_bytes)
  | inr other ↦
      let decoded = decode_of-ok digits salt (salt-decoded digits salt other read) in
      let hex = hex_digits digits ok other in
      let few = hex.few in
      let len = decoded.2 in
      (omega arith, decoded.3)
]

-- the digits of a named digest decode
pub root-read : (name digits : List ℕ) → is_name name ≡ true → is_hex (digest_digits name) digits ≡ true → (root : List ℕ) ×
    (decode_of digits ≡ Ok root)
root-read name digits named hex =
    let a = algorithm_named name named in
    let both = and_parts (length digits == digest_digits name) (list_all is_hex_digit digits) hex in
    let len = eqb-true (length digits) (digest_digits name) both.0 in
    decode_of-digits digits (even_digits a.0 name (length digits) a.1 len) (AllPass-from_list_all is_hex_digit digits both.1)

-- such a field has a salt
pub salt-read : (digits : List ℕ) → is_salt digits ≡ true → (salt : List ℕ) × IsSaltOf digits salt
salt-read digits ok = elim (cases_Bool (is_text digits (codes "-"))) [
  | inl dash ↦ ([], ap (λ t. if t then Ok [] else decode_of digits) dash)
  | inr other ↦
      let hex = hex_digits digits ok other in
      let read = decode_of-digits digits hex.even hex.hex in
      (read.0, ap (λ t. if t then Ok [] else decode_of digits) other ∙ read.1)
]

-- and a field with a salt of at most 256 bytes, that isn't empty, is one
pub salt-is : (digits salt : List ℕ) → 0 < length digits → length salt ≤ 256 → IsSaltOf digits salt → is_salt digits ≡ true
salt-is digits salt some short read = elim (cases_Bool (is_text digits (codes "-"))) [
  | inl dash ↦ or_left (is_text digits (codes "-")) (is_hex_salt digits) dash
  | inr other ↦
      let decoded = decode_of-ok digits salt (salt-decoded digits salt other read) in
      let even = decoded.0 in
      let len = decoded.2 in
      or_right (is_text digits (codes "-")) (is_hex_salt digits)
      (parts-is_hex_salt digits (record { some = omega arith; few = omega arith; even = even; hex = decoded.1 }))
]

-- ---- the line

-- the values are those that the fields say
pub record Says (text : List ℕ) (t : TableLine) : Type 0 where
  pub dev : field text 1 ≡ t.dev
  pub hash_dev : field text 2 ≡ t.hash_dev
  pub data_size : number (field text 3) ≡ t.data_block_size
  pub hash_size : number (field text 4) ≡ t.hash_block_size
  pub count : number (field text 5) ≡ t.data_blocks
  pub start : number (field text 6) ≡ t.hash_start_block
  pub algorithm : t.algorithm ≡ algorithm_of t.root
  pub digest : decode_of (field text 8) ≡ Ok t.root
  pub salt : IsSaltOf (field text 9) t.salt

pub line-said : (text : List ℕ) (t : TableLine) → line_refusal text ≡ None → Says text t → Line text t
line-said text t none says =
    let ok = no_refusal text none in
    let named = algorithm_named (field text 7) ok.name in
    let sized = root-sized named.0 (field text 7) (field text 8) t.root named.1 ok.digest says.digest in
    let algorithm = says.algorithm ∙ algorithm_of-sized named.0 t.root sized in
    let salted = salt-values (field text 9) t.salt ok.salt says.salt in
    let near = ok.start in
    let start = says.start in
    record {
      ten = ok.ten;
      version = ok.version;
      dev = says.dev;
      hash_dev = says.hash_dev;
      data_size = record { reads = ok.numbers.first; value = says.data_size };
      hash_size = record { reads = ok.numbers.second; value = says.hash_size };
      count = record { reads = ok.numbers.third; value = says.count };
      start = record { reads = ok.numbers.fourth; value = says.start };
      algorithm = named.1 ∙ ap name_of (sym algorithm);
      digest = says.digest;
      salt = says.salt;
      values = record {
        dev = ap is_path (sym says.dev) ∙ field-is_path text 1 ok.ten (omega arith);
        hash_dev = ap is_path (sym says.hash_dev) ∙ field-is_path text 2 ok.ten (omega arith);
        data_size = ap is_block_size (sym says.data_size) ∙ ok.data_size;
        hash_size = ap is_block_size (sym says.hash_size) ∙ ok.hash_size;
        count = ap is_block_count (sym says.count) ∙ ok.count;
        start = omega arith;
        digest = sized ∙ ap size_of (sym algorithm);
        digest_bytes = (decode_of-ok (field text 8) t.root says.digest).3;
        short_salt = salted.0;
        salt_bytes = salted.1;
      };
    }

-- ---- a text is one table line at most

pub same_line : (text : List ℕ) (t u : TableLine) → Line text t → Line text u → t ≡ u
same_line text t u r s =
    let dev = sym r.dev ∙ s.dev in
    let hash_dev = sym r.hash_dev ∙ s.hash_dev in
    let data_size = sym r.data_size.value ∙ s.data_size.value in
    let hash_size = sym r.hash_size.value ∙ s.hash_size.value in
    let count = sym r.count.value ∙ s.count.value in
    let start = sym r.start.value ∙ s.start.value in
    let algorithm = same_algorithm t.algorithm u.algorithm (sym r.algorithm ∙ s.algorithm) in
    let root = decode_of-same (field text 8) t.root u.root r.digest s.digest in
    let salt = same_ok t.salt u.salt (sym r.salt ∙ s.salt) in
    ap (λ x. record t { dev = x }) dev
    ∙ ap (λ x. record t { dev = u.dev; hash_dev = x }) hash_dev
    ∙ ap (λ x. record t { dev = u.dev; hash_dev = u.hash_dev; data_block_size = x }) data_size
    ∙ ap (λ x. record t { dev = u.dev; hash_dev = u.hash_dev; data_block_size = u.data_block_size; hash_block_size = x }) hash_size
    ∙ ap (λ x. record u {
      data_blocks = x;
      hash_start_block = t.hash_start_block;
      algorithm = t.algorithm;
      root = t.root;
      salt = t.salt;
    }) count
    ∙ ap (λ x. record u { hash_start_block = x; algorithm = t.algorithm; root = t.root; salt = t.salt }) start
    ∙ ap (λ x. record u { algorithm = x; root = t.root; salt = t.salt }) algorithm
    ∙ ap (λ x. record u { root = x; salt = t.salt }) root
    ∙ ap (λ x. record u { salt = x }) salt

-- ---- the refusals of a text whose fields these are

pub at_place : (text : List ℕ) (i : ℕ) (fs : List (List ℕ)) → fields_of text ≡ fs → field text i ≡ slice_index_or fs i []
at_place text i fs e = ap (λ gs. slice_index_or gs i []) e

pub line_refusal-shape : (text : List ℕ) (f : TableFault) → Some f ≡ shape_refusal text → line_refusal text ≡ Some f
unfolding line_refusal
line_refusal-shape text f e = or-first (shape_refusal text) (option_or (numbers_of text) (later_of text)) f e

pub line_refusal-cut : (text dev hash_dev data_size hash_size blocks begin name digest salt : List ℕ)
    → fields_of text ≡ codes "1" ∷ dev ∷ hash_dev ∷ data_size ∷ hash_size ∷ blocks ∷ begin ∷ name ∷ digest ∷ salt ∷ [] →
    None ≡ shape_refusal text
    → line_refusal text ≡ option_or (numbers_refusal data_size hash_size blocks begin)
    (option_or (digest_refusal name digest) (salt_refusal salt))
unfolding line_refusal
line_refusal-cut text dev hash_dev data_size hash_size blocks begin name digest salt e taken =
    or-next (shape_refusal text) (option_or (numbers_of text) (later_of text)) taken
    ∙ ap (λ (fs : List (List ℕ)). option_or (numbers_refusal (slice_index_or fs 3 []) (slice_index_or fs 4 [])
    (slice_index_or fs 5 []) (slice_index_or fs 6 []))
    (option_or (digest_refusal (slice_index_or fs 7 []) (slice_index_or fs 8 [])) (salt_refusal (slice_index_or fs 9 [])))) e

-- what stands after the salt was refused
pub salt-exit : {T U : Type 0} (salt : List ℕ) (r : Result T TableFault) (f : TableFault) → r ≡ Err f →
    (is_salt salt ≡ false → Path (Result U TableFault) (Err f) (Err fault.Salt)) → (is_salt salt ≡ true → f ≡ fault.NoMemory)
    → MatchOption (salt_refusal salt) (IsOkUnless r fault.NoMemory) (λ x. r ≡ Err x)
salt-exit {T = T} {U = U} salt r f e refused taken = elim (cases_Bool (is_salt salt)) [
  | inl ok ↦ rw (sym (one-taken (is_salt salt) fault.Salt ok)) (rw e (taken ok))
  | inr bad ↦
      let told = refused bad in
      let same : f ≡ fault.Salt = cc in
      rw (sym (one-refused (is_salt salt) fault.Salt bad)) (e ∙ ap Err same)
]

-- nothing of the text is refused
pub line_refusal-none : (text dev hash_dev data_size hash_size blocks begin name digest salt : List ℕ)
    → fields_of text ≡ codes "1" ∷ dev ∷ hash_dev ∷ data_size ∷ hash_size ∷ blocks ∷ begin ∷ name ∷ digest ∷ salt ∷ [] →
    None ≡ shape_refusal text
    → None ≡ numbers_refusal data_size hash_size blocks begin → None ≡ digest_refusal name digest → (is_salt salt ≡ false → ⊥) →
    line_refusal text ≡ None
line_refusal-none text dev hash_dev data_size hash_size blocks begin name digest salt e shape numbers root salted =
    line_refusal-cut text dev hash_dev data_size hash_size blocks begin name digest salt e shape
    ∙ or-next (numbers_refusal data_size hash_size blocks begin) (option_or (digest_refusal name digest) (salt_refusal salt)) numbers
    ∙ or-next (digest_refusal name digest) (salt_refusal salt) root
    ∙ sym (one-taken (is_salt salt) fault.Salt (true_from_ne_false (is_salt salt) salted))

pub line_refusal-taken : (text : List ℕ) → None ≡ shape_refusal text → None ≡ numbers_of text →
    None ≡ digest_refusal (field text 7) (field text 8) → None ≡ salt_refusal (field text 9) → line_refusal text ≡ None
unfolding line_refusal
line_refusal-taken text shape numbers root salt =
    or-next (shape_refusal text) (option_or (numbers_of text) (later_of text)) shape ∙ or-next (numbers_of text) (later_of text) numbers
    ∙ or-next (digest_refusal (field text 7) (field text 8)) (salt_refusal (field text 9)) root ∙ sym salt
