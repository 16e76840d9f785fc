-- The laws of superblocks.
use Rattle.std.proofs.Common.{◌≡◌, ℕ, ◌+◌, ◌-◌, ◌<◌, ◌≤◌, ◌==◌, Bool, true, false, nat_eq, nat_lt, List, ◌++◌, length, take, drop}
use Rattle.std.proofs.Common.{Option, Some, None, refl, sym, ap, ◌∙◌, arith, ◌⊎◌, inl, inr, subst}
use Rattle.std.specs.Prelude.{slice_index, slice_range, ◌||◌, ◌&&◌, not, if◌then◌else◌}
use Rattle.std.specs.Option.{option_or}
use Rattle.std.specs.Cmp.Lexicographic.{same_text}
use Rattle.std.proofs.lemmas.Bool.{or_cases, or_left, or_right, and_parts, and_from, ltb-false, le-ltb}
use Rattle.std.proofs.lemmas.List.{length-take-le, length-drop}
use Rattle.verity_digest.specs.declared.algorithm.Algorithm.{Algorithm}
use Rattle.verity_digest.specs.declared.algorithm.Algorithm.TheVariants.{Sha256, Sha512}
use Rattle.verity_digest.specs.Hash.{name_of}
use Rattle.verity_profile.specs.Profile.{is_block_size, is_block_count}
use Rattle.verity_superblock.specs.declared.faults.SuperFault.TheVariants.{Short, BadSize, BadCount, SaltSize}
use Rattle.verity_superblock.specs.Superblock.{Params, IsProfile, superblock}
use Rattle.verity_superblock.specs.Reading
use Rattle.verity_superblock.specs.Reading.{Reads, refusal, is_text, kind_refusal, size_refusal}
use Rattle.verity_superblock.specs.Laws.{ReadsBack, Determines, RefusesTheRest}
use Rattle.verity_superblock.proofs.Fields.{length-superblock, reads-superblock, length-within}
use Rattle.verity_superblock.proofs.Refusals.{IsKind, kind_refusal-none, kind_refusal-taken, refusal-size, refusal-none_whole}
use Rattle.verity_superblock.proofs.Refusals.{refusal-none_kind, size_refusal-none, size_refusal-taken, text_true}

pub reads_back : ReadsBack
reads_back = record { size = length-superblock; reads = reads-superblock }

-- ---- bytes determine the volume

-- the digits at which the two names differ
two_is_not_five : (x y : ℕ) → x ≡ 50 → y ≡ 53 → x ≡ y → ⊥
two_is_not_five x y ex ey e = omega arith

pub same_algorithm : (a b : Algorithm) → name_of a ≡ name_of b → a ≡ b
same_algorithm Sha256 Sha256 e = refl
same_algorithm Sha256 Sha512 e = absurd (two_is_not_five 50 53 refl refl (ap (λ (name : List ℕ). slice_index name 3) e))
same_algorithm Sha512 Sha256 e = absurd (two_is_not_five 50 53 refl refl (sym (ap (λ (name : List ℕ). slice_index name 3) e)))
same_algorithm Sha512 Sha512 e = refl

params-determined : (bytes : List ℕ) (p q : Params) (n m : ℕ) → Reads bytes p n → Reads bytes q m → p ≡ q
params-determined bytes p q n m r s =
    let algorithm = same_algorithm p.algorithm q.algorithm (sym r.algorithm ∙ s.algorithm) in
    let data_size = sym r.data_size ∙ s.data_size in
    let hash_size = sym r.hash_size ∙ s.hash_size in
    let salt = sym r.salt ∙ s.salt in
    let uuid = sym r.uuid ∙ s.uuid in
    ap (λ a. record {
      algorithm = a;
      data_block_size = p.data_block_size;
      hash_block_size = p.hash_block_size;
      salt = p.salt;
      uuid = p.uuid;
    }) algorithm
    ∙ ap (λ d. record {
      algorithm = q.algorithm;
      data_block_size = d;
      hash_block_size = p.hash_block_size;
      salt = p.salt;
      uuid = p.uuid;
    }) data_size
    ∙ ap (λ h. record {
      algorithm = q.algorithm;
      data_block_size = q.data_block_size;
      hash_block_size = h;
      salt = p.salt;
      uuid = p.uuid;
    }) hash_size
    ∙ ap (λ x. record {
      algorithm = q.algorithm;
      data_block_size = q.data_block_size;
      hash_block_size = q.hash_block_size;
      salt = x;
      uuid = p.uuid;
    }) salt
    ∙ ap (λ u. record {
      algorithm = q.algorithm;
      data_block_size = q.data_block_size;
      hash_block_size = q.hash_block_size;
      salt = q.salt;
      uuid = u;
    }) uuid

pub determines : Determines
determines = record { params = params-determined; count = λ bytes p q n m r s. sym r.count ∙ s.count }

-- ---- what is refused

-- the algorithm of a name that is one of the two
pub algorithm_named : (name : List ℕ) → (is_text name (name_of Sha256) || is_text name (name_of Sha512)) ≡ true → (a : Algorithm) ×
    (name ≡ name_of a)
algorithm_named name h = elim (or_cases (is_text name (name_of Sha256)) (is_text name (name_of Sha512)) h) [
  | inl first ↦ (Sha256, same_text name (name_of Sha256) (sym first))
  | inr second ↦ (Sha512, same_text name (name_of Sha512) (sym second))
]

named_algorithm : (name : List ℕ) (a : Algorithm) → name ≡ name_of a →
    (is_text name (name_of Sha256) || is_text name (name_of Sha512)) ≡ true
named_algorithm name Sha256 e = or_left (is_text name (name_of Sha256)) (is_text name (name_of Sha512)) (text_true name (name_of Sha256) e)
named_algorithm name Sha512 e = or_right (is_text name (name_of Sha256)) (is_text name (name_of Sha512)) (text_true name (name_of Sha512) e)

-- the volume that the fields say, under this algorithm
abbrev said : List ℕ → Algorithm → Params
said bytes a = record {
  algorithm = a;
  data_block_size = Reading.data_block_size bytes;
  hash_block_size = Reading.hash_block_size bytes;
  salt = Reading.salt bytes;
  uuid = Reading.uuid bytes;
}

read_where_none : (bytes : List ℕ) → refusal bytes ≡ None → (p : Params) × (n : ℕ) × IsProfile p n × Reads bytes p n
read_where_none bytes h =
    let whole = refusal-none_whole bytes h in
    let kind = kind_refusal-none bytes (refusal-none_kind bytes h) in
    let sizes = size_refusal-none bytes (sym (refusal-size bytes whole (refusal-none_kind bytes h)) ∙ h) in
    let both = and_parts (is_block_size (Reading.data_block_size bytes)) (is_block_size (Reading.hash_block_size bytes)) sizes.first in
    let short : Reading.salt_size bytes ≤ 256 = ltb-false 256 (Reading.salt_size bytes) sizes.third in
    let named = algorithm_named (Reading.algorithm_name bytes) kind.algorithm in
    let len : length (Reading.salt bytes) ≡ Reading.salt_size bytes = length-within bytes 88 (Reading.salt_size bytes) (omega arith) in (
      said bytes named.0,
      Reading.data_blocks bytes,
      record {
        data_size = both.0;
        hash_size = both.1;
        count = sizes.second;
        salt = omega arith;
        uuid = length-take-le 16 (drop 16 bytes) (omega (arith, length-drop 16 bytes));
      },
      record {
        whole = whole;
        signature = kind.signature;
        version = kind.version;
        hash_type = kind.hash_type;
        uuid = refl;
        algorithm = named.1;
        data_size = refl;
        hash_size = refl;
        count = refl;
        salt_size = sym len;
        salt = refl;
      },
    )

none_where_read : (bytes : List ℕ) (p : Params) (n : ℕ) → IsProfile p n → Reads bytes p n → refusal bytes ≡ None
none_where_read bytes p n ok r =
    let kind : IsKind bytes = record {
      signature = r.signature;
      version = r.version;
      hash_type = r.hash_type;
      algorithm = named_algorithm (Reading.algorithm_name bytes) p.algorithm r.algorithm;
    } in
    let short : Reading.salt_size bytes ≤ 256 = omega (arith, r.salt_size, ok.salt) in
    refusal-size bytes r.whole (kind_refusal-taken bytes kind)
    ∙ size_refusal-taken bytes (record {
      first = and_from (is_block_size (Reading.data_block_size bytes)) (is_block_size (Reading.hash_block_size bytes))
          (ap is_block_size r.data_size ∙ ok.data_size) (ap is_block_size r.hash_size ∙ ok.hash_size);
      second = ap is_block_count r.count ∙ ok.count;
      third = le-ltb 256 (Reading.salt_size bytes) short;
    })

pub refuses_the_rest : RefusesTheRest
refuses_the_rest bytes = (read_where_none bytes, λ read. none_where_read bytes read.0 read.1 read.2 read.3)
