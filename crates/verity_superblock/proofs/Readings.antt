-- What the fields of a table line read as.
use Rattle.std.proofs.Common.{◌≡◌, ℕ, ◌+◌, ◌-◌, ◌*◌, ◌/◌, ◌%◌, ◌^◌, ◌<◌, ◌≤◌, ◌==◌, Bool, true, false, nat_eq, nat_lt, List, []}
use Rattle.std.proofs.Common.{◌∷◌, ◌++◌, length, take, drop, slice_index_or, slice_index, Option, Some, None, Result, Ok, Err, refl}
use Rattle.std.proofs.Common.{sym, ap, ◌∙◌, arith, ◌⊎◌, inl, inr, subst}
use Rattle.std.specs.Prelude.{not, ◌&&◌, ◌||◌, nat_le, IsTrue, IsOk, IsSome, ◌↔◌, if◌then◌else◌, codes}
use Rattle.std.specs.List.{list_all, AllPass, slice_split}
use Rattle.std.proofs.lemmas.Bool.{and_from, and_parts, and_left, and_right, or_cases, or_left, or_right, cases_Bool}
use Rattle.std.proofs.lemmas.Bool.{false_from_ne_true, eqb-true, eq-eqb, leb-true, le-leb, ltb-true, lt-ltb}
use Rattle.std.proofs.lemmas.List.Sums.{AllPass-from_list_all, list_all-from_AllPass}
use Rattle.std.specs.Char.{is_ascii_digit}
use Rattle.std.specs.Str.{all_ascii_digits}
use Rattle.std.specs.Str.Parse.{digits_value, ParsesUnsigned}
use Rattle.std.specs.Result.{OkIff, is_ok}
use Rattle.std.proofs.lemmas.Str.Parse.{IsNumeralModel, numerals_by_value, tells_all_ascii_digits, parse_digits}
use Rattle.hex.specs.Hex.{decode_of, decode_sized, is_hex_digit}
use Rattle.hex.proofs.HexLemmas.{IsOk-decode_sized, decode_sized-twice, decode_sized-ok}
use Rattle.verity_digest.specs.declared.algorithm.Algorithm.{Algorithm}
use Rattle.verity_digest.specs.declared.algorithm.Algorithm.TheVariants.{Sha256, Sha512}
use Rattle.verity_digest.specs.Hash.{name_of, size_of}
use Rattle.verity_superblock.specs.declared.faults.TableFault.TheVariants.{Number, Size, Count, Digest}
use Rattle.verity_superblock.proofs.InTurn.{one-taken, one-refused, three-first, three-second, three-third, three-taken}
use Rattle.verity_profile.specs.Profile.{is_block_size, is_block_count, IsBlockSize, IsBlockCount}
use Rattle.verity_superblock.specs.Line.{is_hex, is_hex_salt, is_number, number, numbers_refusal, digest_refusal}

-- n digits are hexadecimal exactly where they decode into half as much room
pub is_hex-sized : (digits : List ℕ) (n : ℕ) → is_hex (2 * n) digits ≡ true → IsOk (decode_sized digits n)
is_hex-sized digits n h =
    let parts = and_parts (length digits == 2 * n) (list_all is_hex_digit digits) h in
    (IsOk-decode_sized digits n).1 (eqb-true (length digits) (2 * n) parts.0, AllPass-from_list_all is_hex_digit digits parts.1)

pub sized-is_hex : (digits : List ℕ) (n : ℕ) → IsOk (decode_sized digits n) → is_hex (2 * n) digits ≡ true
sized-is_hex digits n ok =
    let read = (IsOk-decode_sized digits n).0 ok in
    and_from (length digits == 2 * n) (list_all is_hex_digit digits) (eq-eqb (length digits) (2 * n) read.0)
    (list_all-from_AllPass is_hex_digit digits read.1)

-- what was decoded into room is what the digits decode to
pub decoded : (digits bytes : List ℕ) (n : ℕ) → decode_sized digits n ≡ Ok bytes → decode_of digits ≡ Ok bytes
decoded digits bytes n h = sym (decode_sized-twice digits n (decode_sized-ok digits n bytes h)) ∙ h

-- the digits of a salt
pub record IsHexSalt (digits : List ℕ) : Type 0 where
  pub some : 2 ≤ length digits
  pub few : length digits ≤ 512
  pub even : length digits % 2 ≡ 0
  pub hex : AllPass is_hex_digit digits

pub is_hex_salt-parts : (digits : List ℕ) → is_hex_salt digits ≡ true → IsHexSalt digits
is_hex_salt-parts digits h =
    let a = and_parts (nat_le 2 (length digits))
    (nat_le (length digits) 512 && ((length digits % 2 == 0) && list_all is_hex_digit digits)) h in
    let b = and_parts (nat_le (length digits) 512) ((length digits % 2 == 0) && list_all is_hex_digit digits) a.1 in
    let c = and_parts (length digits % 2 == 0) (list_all is_hex_digit digits) b.1 in
    record {
      some = leb-true 2 (length digits) a.0;
      few = leb-true (length digits) 512 b.0;
      even = eqb-true (length digits % 2) 0 c.0;
      hex = AllPass-from_list_all is_hex_digit digits c.1;
    }

pub parts-is_hex_salt : (digits : List ℕ) → IsHexSalt digits → is_hex_salt digits ≡ true
parts-is_hex_salt digits h =
    and_from (nat_le 2 (length digits)) (nat_le (length digits) 512 && ((length digits % 2 == 0) && list_all is_hex_digit digits))
    (le-leb 2 (length digits) h.some)
    (and_from (nat_le (length digits) 512) ((length digits % 2 == 0) && list_all is_hex_digit digits) (le-leb (length digits) 512 h.few)
    (and_from (length digits % 2 == 0) (list_all is_hex_digit digits) (eq-eqb (length digits % 2) 0 h.even)
    (list_all-from_AllPass is_hex_digit digits h.hex)))

pub salt-sized : (digits : List ℕ) (n : ℕ) → n ≡ length digits / 2 → is_hex_salt digits ≡ true → (0 < n) × (n ≤ 256) ×
    IsOk (decode_sized digits n)
salt-sized digits n e h =
    let parts = is_hex_salt-parts digits h in
    let some = parts.some in
    let few = parts.few in
    let even = parts.even in
    (omega arith, omega arith, (IsOk-decode_sized digits n).1 (omega arith, parts.hex))

pub sized-salt : (digits : List ℕ) (n : ℕ) → 0 < n → n ≤ 256 → IsOk (decode_sized digits n) → is_hex_salt digits ≡ true
sized-salt digits n some few ok =
    let read = (IsOk-decode_sized digits n).0 ok in
    let len = read.0 in
    parts-is_hex_salt digits (record { some = omega arith; few = omega arith; even = omega arith; hex = read.1 })

-- an `Ok` decides against an `Err`
pub ok_not_err : {T E : Type 0} (r : Result T E) (e : E) → r ≡ Err e → IsOk r → ⊥
ok_not_err r e h ok = let clash = subst (λ x. IsOk x) h ok in cc

-- ---- numbers

pub all_ascii_digits-list_all : (digits : List ℕ) → all_ascii_digits digits ≡ list_all is_ascii_digit digits
all_ascii_digits-list_all [] = refl
all_ascii_digits-list_all (d ∷ digits) = ap (λ rest. is_ascii_digit d && rest) (all_ascii_digits-list_all digits)

abbrev pub own : IsNumeralModel (λ ds. all_ascii_digits ds ≡ true) (digits_value 10)
own = numerals_by_value (λ ds. all_ascii_digits ds ≡ true) tells_all_ascii_digits

pub record IsNumeralText (digits : List ℕ) : Type 0 where
  pub some : 1 ≤ length digits
  pub few : length digits ≤ 20
  pub decimal : list_all is_ascii_digit digits ≡ true
  pub fits : number digits < 2 ^ 64

pub is_number-parts : (digits : List ℕ) → is_number digits ≡ true → IsNumeralText digits
is_number-parts digits h =
    let a = and_parts (nat_le 1 (length digits))
    (nat_le (length digits) 20 && (list_all is_ascii_digit digits && nat_lt (number digits) (2 ^ 64))) h in
    let b = and_parts (nat_le (length digits) 20) (list_all is_ascii_digit digits && nat_lt (number digits) (2 ^ 64)) a.1 in
    let c = and_parts (list_all is_ascii_digit digits) (nat_lt (number digits) (2 ^ 64)) b.1 in
    record {
      some = leb-true 1 (length digits) a.0;
      few = leb-true (length digits) 20 b.0;
      decimal = c.0;
      fits = ltb-true (number digits) (2 ^ 64) c.1;
    }

pub parts-is_number : (digits : List ℕ) → IsNumeralText digits → is_number digits ≡ true
parts-is_number digits h =
    and_from (nat_le 1 (length digits)) (nat_le (length digits) 20 && (list_all is_ascii_digit digits && nat_lt (number digits)
    (2 ^ 64))) (le-leb 1 (length digits) h.some)
    (and_from (nat_le (length digits) 20) (list_all is_ascii_digit digits && nat_lt (number digits) (2 ^ 64))
    (le-leb (length digits) 20 h.few)
    (and_from (list_all is_ascii_digit digits) (nat_lt (number digits) (2 ^ 64)) h.decimal (lt-ltb (number digits) (2 ^ 64) h.fits)))

decided : {E : Type 0} (digits : List ℕ) (r : Result ℕ E) → OkIff r ((0 < length digits) × (number digits < 2 ^ 64)) (number digits)
    → list_all is_ascii_digit digits ≡ true → length digits ≤ 20 → (is_ok r ≡ true) ↔ (is_number digits ≡ true)
decided digits (Ok n) h all few = (
  λ _. parts-is_number digits (record { some = h.0.0; few = few; decimal = all; fits = h.0.1 }),
  λ _. refl,
)
decided digits (Err e) h all few = (
  λ ok. cc ok,
  λ is. let parts = is_number-parts digits is in absurd (h (parts.some, parts.fits)),
)

-- what `parse` takes of at most 20 digits is a number
pub parsed-number : {E : Type 0} (digits : List ℕ) (r : Result ℕ E) → ParsesUnsigned 64 10 digits r
    → list_all is_ascii_digit digits ≡ true → length digits ≤ 20 → (is_ok r ≡ true) ↔ (is_number digits ≡ true)
parsed-number digits r h all few =
    decided digits r (parse_digits own 64 digits r h (all_ascii_digits-list_all digits ∙ all)) all few

-- ---- the root hash

-- under an algorithm's name the digits of a digest of its size are taken, and no other
pub root-taken : (a : Algorithm) (name digits : List ℕ) → name ≡ name_of a → IsOk (decode_sized digits (size_of a)) →
    None ≡ digest_refusal name digits
root-taken Sha256 name digits e ok = subst (λ (n : List ℕ). None ≡ digest_refusal n digits) (sym e)
    (one-taken (is_hex 64 digits) Digest (sized-is_hex digits 32 ok))
root-taken Sha512 name digits e ok = subst (λ (n : List ℕ). None ≡ digest_refusal n digits) (sym e)
    (one-taken (is_hex 128 digits) Digest (sized-is_hex digits 64 ok))

pub root-refused : (a : Algorithm) (name digits : List ℕ) → name ≡ name_of a → (IsOk (decode_sized digits (size_of a)) → ⊥) →
    Some Digest ≡ digest_refusal name digits
root-refused Sha256 name digits e none =
    subst (λ (n : List ℕ). Some Digest ≡ digest_refusal n digits) (sym e)
    (one-refused (is_hex 64 digits) Digest (false_from_ne_true (is_hex 64 digits) (λ h. none (is_hex-sized digits 32 h))))
root-refused Sha512 name digits e none =
    subst (λ (n : List ℕ). Some Digest ≡ digest_refusal n digits) (sym e)
    (one-refused (is_hex 128 digits) Digest (false_from_ne_true (is_hex 128 digits) (λ h. none (is_hex-sized digits 64 h))))

pub ok_from : {T E : Type 0} (r : Result T E) (x : T) → Ok x ≡ r → IsOk r
ok_from r x e = subst (λ r. IsOk r) e refl

-- ---- the four numbers

pub record FourNumbers (a b c d : List ℕ) : Type 0 where
  pub first : is_number a ≡ true
  pub second : is_number b ≡ true
  pub third : is_number c ≡ true
  pub fourth : is_number d ≡ true

abbrev all_numbers : List ℕ → List ℕ → List ℕ → List ℕ → Bool
all_numbers a b c d = is_number a && (is_number b && (is_number c && is_number d))

pub all_numbers-parts : (a b c d : List ℕ) → all_numbers a b c d ≡ true → FourNumbers a b c d
all_numbers-parts a b c d h =
    let first = and_parts (is_number a) (is_number b && (is_number c && is_number d)) h in
    let second = and_parts (is_number b) (is_number c && is_number d) first.1 in
    let third = and_parts (is_number c) (is_number d) second.1 in
    record { first = first.0; second = second.0; third = third.0; fourth = third.1 }

pub parts-all_numbers : (a b c d : List ℕ) → FourNumbers a b c d → all_numbers a b c d ≡ true
parts-all_numbers a b c d h =
    and_from (is_number a) (is_number b && (is_number c && is_number d)) h.first
    (and_from (is_number b) (is_number c && is_number d) h.second (and_from (is_number c) (is_number d) h.third h.fourth))

abbrev sizes : List ℕ → List ℕ → Bool
sizes a b = is_block_size (number a) && is_block_size (number b)

abbrev counts : List ℕ → List ℕ → Bool
counts c d = is_block_count (number c) && nat_le (number d) (2 ^ 40)

pub numbers-taken : (a b c d : List ℕ) → FourNumbers a b c d → IsBlockSize (number a) → IsBlockSize (number b) →
    IsBlockCount (number c) → number d ≤ 2 ^ 40 → None ≡ numbers_refusal a b c d
numbers-taken a b c d read sized_a sized_b counted near =
    three-taken (all_numbers a b c d) (sizes a b) (counts c d) Number Size Count (parts-all_numbers a b c d read)
    (and_from (is_block_size (number a)) (is_block_size (number b)) sized_a sized_b)
    (and_from (is_block_count (number c)) (nat_le (number d) (2 ^ 40)) counted (le-leb (number d) (2 ^ 40) near))
