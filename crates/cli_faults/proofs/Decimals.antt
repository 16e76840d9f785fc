-- What `parse` gives of decimal digits.
use Rattle.std.proofs.Common.{◌≡◌, ℕ, ◌<◌, ◌^◌, Bool, true, false, nat_lt, List, length, Result, Ok, Err, sym, ap, ◌∙◌}
use Rattle.std.specs.Prelude.{◌&&◌, if◌then◌else◌}
use Rattle.std.specs.List.{list_all}
use Rattle.std.specs.Char.{is_ascii_digit}
use Rattle.std.specs.Result.{OkIff}
use Rattle.std.specs.Str.Parse.{ParsesUnsigned, digits_value}
use Rattle.std.proofs.lemmas.Bool.{and_from, and_parts, false_from_ne_true, ltb-true, lt-ltb}
use Rattle.std.proofs.lemmas.Str.Parse.{parse_digits}
use Rattle.verity_superblock.proofs.Readings.{own, all_ascii_digits-list_all}
use Rattle.cli_faults.specs.declared.failure.Word.{Word}
use Rattle.cli_faults.specs.declared.failure.Failure.{Failure}
use Rattle.cli_faults.specs.declared.failure.Failure.TheVariants as failure
use Rattle.cli_faults.specs.Words.{is_decimal, number_in}

chosen : (w : Word) (digits : List ℕ) (b : Bool) → is_decimal digits ≡ b →
    number_in w digits ≡ (if b then Ok (digits_value 10 digits) else Err (failure.Word w))
chosen w digits b e = let pick : Bool → Result ℕ Failure = λ c. if c then Ok (digits_value 10 digits) else Err (failure.Word w) in ap pick e

parsed : {E : Type 0} (digits : List ℕ) (r : Result ℕ E) → ParsesUnsigned 64 10 digits r → list_all is_ascii_digit digits ≡ true
    → OkIff r ((0 < length digits) × (digits_value 10 digits < 2 ^ 64)) (digits_value 10 digits)
parsed digits r h all = parse_digits own 64 digits r h (all_ascii_digits-list_all digits ∙ all)

decimal : (digits : List ℕ) → list_all is_ascii_digit digits ≡ true → (0 < length digits) × (digits_value 10 digits < 2 ^ 64) →
    is_decimal digits ≡ true
decimal digits all h =
    and_from (nat_lt 0 (length digits)) (list_all is_ascii_digit digits && nat_lt (digits_value 10 digits) (2 ^ 64))
    (lt-ltb 0 (length digits) h.0)
    (and_from (list_all is_ascii_digit digits) (nat_lt (digits_value 10 digits) (2 ^ 64)) all
    (lt-ltb (digits_value 10 digits) (2 ^ 64) h.1))

decimal-parts : (digits : List ℕ) → is_decimal digits ≡ true → (list_all is_ascii_digit digits ≡ true) × (0 < length digits) ×
    (digits_value 10 digits < 2 ^ 64)
decimal-parts digits h =
    let a = and_parts (nat_lt 0 (length digits)) (list_all is_ascii_digit digits && nat_lt (digits_value 10 digits) (2 ^ 64)) h in
    let b = and_parts (list_all is_ascii_digit digits) (nat_lt (digits_value 10 digits) (2 ^ 64)) a.1 in
    (b.0, ltb-true 0 (length digits) a.0, ltb-true (digits_value 10 digits) (2 ^ 64) b.1)

-- a text that isn't digits alone
pub not_digits : (w : Word) (digits : List ℕ) → list_all is_ascii_digit digits ≡ false → Err (failure.Word w) ≡ number_in w digits
not_digits w digits none =
    sym (chosen w digits false (false_from_ne_true (is_decimal digits) (λ h. let parts = decimal-parts digits h in cc)))

-- digits of which `parse` gave a number
pub read : {E : Type 0} (w : Word) (digits : List ℕ) (r : Result ℕ E) (n : ℕ) → ParsesUnsigned 64 10 digits r →
    list_all is_ascii_digit digits ≡ true
    → r ≡ Ok n → Ok n ≡ number_in w digits
read {E = E} w digits (Ok m) n h all e =
    let given : ((0 < length digits) × (digits_value 10 digits < 2 ^ 64)) × (m ≡ digits_value 10 digits) =
    parsed {E = E} digits (Ok m) h all in
    let same : n ≡ digits_value 10 digits = cc in
    ap Ok same ∙ sym (chosen w digits true (decimal digits all given.0))
read {E = E} w digits (Err x) n h all e = absurd (cc e)

-- digits of which it gave none
pub unread : {E : Type 0} (w : Word) (digits : List ℕ) (r : Result ℕ E) (x : E) → ParsesUnsigned 64 10 digits r →
    list_all is_ascii_digit digits ≡ true
    → r ≡ Err x → Err (failure.Word w) ≡ number_in w digits
unread w digits (Ok m) x h all e = absurd (cc e)
unread w digits (Err y) x h all e =
    let given = parsed digits (Err y) h all in
    sym (chosen w digits false (false_from_ne_true (is_decimal digits) (λ is. let parts = decimal-parts digits is in
    absurd (given (parts.1, parts.2)))))
