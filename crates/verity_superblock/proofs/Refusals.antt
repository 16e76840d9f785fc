-- Which refusal is the first, and what the absence of one says of the fields.
use Rattle.std.proofs.Common.{◌≡◌, ℕ, ◌+◌, ◌-◌, ◌<◌, ◌≤◌, Bool, true, false, ◌⊎◌, inl, inr, ◌==◌, nat_lt, List, length, Option}
use Rattle.std.proofs.Common.{Some, None, refl, sym, ap, ◌∙◌, arith}
use Rattle.std.specs.Prelude.{not, ◌&&◌, ◌||◌, IsTrue, codes, if◌then◌else◌, take, drop}
use Rattle.std.specs.Option.{option_or, MatchOption}
use Rattle.std.specs.Bool.{MatchBool}
use Rattle.std.proofs.lemmas.Bool.{and_from, and_parts, false_from_ne_true, not_from_true, eqb-true, eq-eqb, or_left, or_right}
use Rattle.std.proofs.lemmas.Bool.{or_cases, ltb-false, le-ltb}
use Rattle.std.specs.Cmp.Lexicographic.{pointwise, told_text, same_text}
use Rattle.std.proofs.Common.{nat_eq, subst}
use Rattle.verity_superblock.specs.Reading
use Rattle.verity_superblock.specs.Superblock.{zero_filled}
use Rattle.verity_digest.specs.Hash.{name_of}
use Rattle.verity_digest.specs.declared.algorithm.Algorithm.TheVariants.{Sha256, Sha512}
use Rattle.verity_superblock.specs.Reading.{is_text, algorithm_name, Reads, refusal, kind_refusal, size_refusal, data_block_size}
use Rattle.verity_superblock.specs.Reading.{hash_block_size, data_blocks, salt_size}
use Rattle.verity_profile.specs.Profile.{is_block_size, is_block_count, IsBlockSize, IsBlockCount}
use Rattle.verity_superblock.specs.declared.faults.SuperFault.{SuperFault}
use Rattle.verity_superblock.specs.declared.faults.SuperFault.TheVariants.{Short, Signature, Version, HashType, Algorithm, BadSize}
use Rattle.verity_superblock.specs.declared.faults.SuperFault.TheVariants.{BadCount, SaltSize}

-- three tests in a row, of which the second is the first that passes
second_of_three : {F : Type 0} (a b c : Bool) (x y z : F) → a ≡ true → b ≡ false →
    (if not a then Some x else if not b then Some y else if c then Some z else None) ≡ Some y
second_of_three true false c x y z ha hb = refl
second_of_three true true c x y z ha hb = cc
second_of_three false b c x y z ha hb = cc

first_refused : {F : Type 0} (test : Bool) (x : F) (later : Option F) → test ≡ true → (if test then Some x else later) ≡ Some x
first_refused true x later h = refl
first_refused false x later h = cc

next_refused : {F : Type 0} (test : Bool) (x : F) (first second : Option F) (y : F) → test ≡ false → first ≡ Some y →
    (if test then Some x else option_or first second) ≡ Some y
next_refused false x (Some z) second y h e = e
next_refused false x None second y h e = cc
next_refused true x first second y h e = cc

last_refused : {F : Type 0} (test : Bool) (x : F) (first second : Option F) → test ≡ false → first ≡ None →
    (if test then Some x else option_or first second) ≡ second
last_refused false x None second h e = refl
last_refused false x (Some z) second h e = cc
last_refused true x first second h e = cc

whole_true : (n : ℕ) → n < 512 → nat_lt n 512 ≡ true
whole_true n h = grind (arith)

whole_false : (n : ℕ) → 512 ≤ n → nat_lt n 512 ≡ false
whole_false n h = grind (arith)

pub refusal-short : (bytes : List ℕ) → length bytes < 512 → refusal bytes ≡ Some Short
unfolding refusal
refusal-short bytes short = first_refused (nat_lt (length bytes) 512) Short (option_or (kind_refusal bytes) (size_refusal bytes))
    (whole_true (length bytes) short)

pub refusal-kind : (bytes : List ℕ) (fault : SuperFault) → 512 ≤ length bytes → Some fault ≡ kind_refusal bytes → refusal bytes ≡ Some fault
unfolding refusal
refusal-kind bytes fault whole refused =
    next_refused (nat_lt (length bytes) 512) Short (kind_refusal bytes) (size_refusal bytes) fault
    (whole_false (length bytes) whole) (sym refused)

pub refusal-size : (bytes : List ℕ) → 512 ≤ length bytes → None ≡ kind_refusal bytes → refusal bytes ≡ size_refusal bytes
unfolding refusal
refusal-size bytes whole taken =
    last_refused (nat_lt (length bytes) 512) Short (kind_refusal bytes) (size_refusal bytes) (whole_false (length bytes) whole) (sym taken)

pub size_refusal-count : (bytes : List ℕ) → IsBlockSize (data_block_size bytes) → IsBlockSize (hash_block_size bytes) →
    (IsBlockCount (data_blocks bytes) → ⊥)
    → size_refusal bytes ≡ Some BadCount
size_refusal-count bytes data_sized hash_sized none =
    second_of_three (is_block_size (data_block_size bytes) && is_block_size (hash_block_size bytes))
    (is_block_count (data_blocks bytes)) (nat_lt 256 (salt_size bytes)) BadSize BadCount SaltSize
    (and_from (is_block_size (data_block_size bytes)) (is_block_size (hash_block_size bytes)) data_sized hash_sized)
    (false_from_ne_true (is_block_count (data_blocks bytes)) none)

-- ---- what no refusal of the first fields says

-- three tests and a fourth, in a row
abbrev four : {F : Type 0} → Bool → F → Bool → F → Bool → F → Bool → F → Option F
four a w b x c y d z = if not a then Some w else if not b then Some x else if not c then Some y else if not d then Some z else None

record AllFour (a b c d : Bool) : Type 0 where
  pub first : a ≡ true
  pub second : b ≡ true
  pub third : c ≡ true
  pub fourth : d ≡ true

four-none : {F : Type 0} (a b c d : Bool) (w x y z : F) → None ≡ four a w b x c y d z → AllFour a b c d
four-none true true true true w x y z h = record { first = refl; second = refl; third = refl; fourth = refl }
four-none true true true false w x y z h = cc
four-none true true false d w x y z h = cc
four-none true false c d w x y z h = cc
four-none false b c d w x y z h = cc

four-all : {F : Type 0} (a b c d : Bool) (w x y z : F) → AllFour a b c d → None ≡ four a w b x c y d z
four-all a b c d w x y z h = rw (h.first, h.second, h.third, h.fourth) refl

pub text_true : (xs ys : List ℕ) → xs ≡ ys → pointwise nat_eq xs ys ≡ true
text_true xs ys e =
    let told = told_text xs ys (pointwise nat_eq xs ys) refl in
    (elim (pointwise nat_eq xs ys) as (λ b. MatchBool b (xs ≡ ys) ((xs ≡ ys) → ⊥) →
    b ≡ true) [ true ↦ λ _. refl | false ↦ λ differs. absurd (differs e) ]) told

-- the fields before the sizes are those of the format
pub record IsKind (bytes : List ℕ) : Type 0 where
  pub signature : Reading.signature bytes ≡ zero_filled 8 (codes "verity")
  pub version : Reading.version bytes ≡ 1
  pub hash_type : Reading.hash_type bytes ≡ 1
  pub algorithm : (is_text (algorithm_name bytes) (name_of Sha256) || is_text (algorithm_name bytes) (name_of Sha512)) ≡ true

pub kind_refusal-none : (bytes : List ℕ) → None ≡ kind_refusal bytes → IsKind bytes
kind_refusal-none bytes h =
    let all = four-none (is_text (Reading.signature bytes) (zero_filled 8 (codes "verity"))) (Reading.version bytes == 1)
    (Reading.hash_type bytes == 1)
    (is_text (algorithm_name bytes) (name_of Sha256) || is_text (algorithm_name bytes) (name_of Sha512)) Signature Version HashType
    Algorithm h in
    record {
      signature = same_text (Reading.signature bytes) (zero_filled 8 (codes "verity")) (sym all.first);
      version = eqb-true (Reading.version bytes) 1 all.second;
      hash_type = eqb-true (Reading.hash_type bytes) 1 all.third;
      algorithm = all.fourth;
    }

pub kind_refusal-taken : (bytes : List ℕ) → IsKind bytes → None ≡ kind_refusal bytes
kind_refusal-taken bytes kind =
    four-all (is_text (Reading.signature bytes) (zero_filled 8 (codes "verity"))) (Reading.version bytes == 1)
    (Reading.hash_type bytes == 1)
    (is_text (algorithm_name bytes) (name_of Sha256) || is_text (algorithm_name bytes) (name_of Sha512)) Signature Version HashType
    Algorithm
    (record {
      first = text_true (Reading.signature bytes) (zero_filled 8 (codes "verity")) kind.signature;
      second = eq-eqb (Reading.version bytes) 1 kind.version;
      third = eq-eqb (Reading.hash_type bytes) 1 kind.hash_type;
      fourth = kind.algorithm;
    })

-- ---- what no refusal of the sizes says

abbrev three : {F : Type 0} → Bool → F → Bool → F → Bool → F → Option F
three a x b y c z = if not a then Some x else if not b then Some y else if c then Some z else None

pub record AllThree (a b c : Bool) : Type 0 where
  pub first : a ≡ true
  pub second : b ≡ true
  pub third : c ≡ false

pub three-none : {F : Type 0} (a b c : Bool) (x y z : F) → three a x b y c z ≡ None → AllThree a b c
three-none true true false x y z h = record { first = refl; second = refl; third = refl }
three-none true true true x y z h = cc
three-none true false c x y z h = cc
three-none false b c x y z h = cc

pub three-all : {F : Type 0} (a b c : Bool) (x y z : F) → AllThree a b c → three a x b y c z ≡ None
three-all a b c x y z h = rw (h.first, h.second, h.third) refl

pub size_refusal-none : (bytes : List ℕ) → size_refusal bytes ≡ None
    → AllThree (is_block_size (data_block_size bytes) && is_block_size (hash_block_size bytes)) (is_block_count (data_blocks bytes))
    (nat_lt 256 (salt_size bytes))
size_refusal-none bytes h =
    three-none (is_block_size (data_block_size bytes) && is_block_size (hash_block_size bytes)) (is_block_count (data_blocks bytes))
    (nat_lt 256 (salt_size bytes)) BadSize BadCount SaltSize h

pub size_refusal-taken : (bytes : List ℕ) →
    AllThree (is_block_size (data_block_size bytes) && is_block_size (hash_block_size bytes)) (is_block_count (data_blocks bytes))
    (nat_lt 256 (salt_size bytes)) → size_refusal bytes ≡ None
size_refusal-taken bytes h =
    three-all (is_block_size (data_block_size bytes) && is_block_size (hash_block_size bytes)) (is_block_count (data_blocks bytes))
    (nat_lt 256 (salt_size bytes)) BadSize BadCount SaltSize h

none_passed : {F : Type 0} (test : Bool) (x : F) (later : Option F) → (if test then Some x else later) ≡ None → test ≡ false
none_passed true x later h = cc
none_passed false x later h = refl

none_first : {F : Type 0} (test : Bool) (x : F) (first second : Option F) →
    (if test then Some x else option_or first second) ≡ None → None ≡ first
none_first true x first second h = cc
none_first false x None second h = refl
none_first false x (Some y) second h = cc

pub refusal-none_whole : (bytes : List ℕ) → refusal bytes ≡ None → 512 ≤ length bytes
unfolding refusal
refusal-none_whole bytes h =
    ltb-false (length bytes) 512 (none_passed (nat_lt (length bytes) 512) Short (option_or (kind_refusal bytes) (size_refusal bytes)) h)

pub refusal-none_kind : (bytes : List ℕ) → refusal bytes ≡ None → None ≡ kind_refusal bytes
unfolding refusal
refusal-none_kind bytes h = none_first (nat_lt (length bytes) 512) Short (kind_refusal bytes) (size_refusal bytes) h
