use Rattle.std.proofs.Common.{◌≡◌, refl, sym, subst, ◌∙◌, rules, length, ◌+◌, ◌≤◌, arith, take, drop, ap}
use Rattle.std.proofs.lemmas.List.{length-take-le, length-drop}
use Rattle.verity_superblock.proofs.Refusals.{refusal-short, refusal-kind, refusal-size, kind_refusal-none}
use Rattle.verity_superblock.proofs.Fields.{length-within}
use Rattle.std.specs.Prelude.{slice_range}
use Rattle.verity_superblock.proofs.superblock.Superblock.decode.Goals as goal

pub returns-then-bytes-lt512-clause-refused : goal.returns-then-bytes-lt512-clause-refused
returns-then-bytes-lt512-clause-refused g c = rw (refusal-short c.args.bytes.now c.if-bytes-lt512.true) refl

pub returns-in_err-algorithm-clause-refused : goal.returns-in_err-algorithm-clause-refused
returns-in_err-algorithm-clause-refused g c =
    rw (refusal-kind c.args.bytes.now c.in_err-algorithm.field-0.0 c.if-bytes-lt512.false c.in_err-algorithm.ensures.refused) (search rules)

pub returns-in_err-sizes-clause-refused : goal.returns-in_err-sizes-clause-refused
returns-in_err-sizes-clause-refused g c =
    rw (refusal-size c.args.bytes.now c.if-bytes-lt512.false c.in_ok-algorithm.ensures.refused ∙ sym c.in_err-sizes.ensures.refused)
    (search rules)

pub returns-in_default-clause-refused : goal.returns-in_default-clause-refused
returns-in_default-clause-refused g c =
    rw (refusal-size c.args.bytes.now c.if-bytes-lt512.false c.in_ok-algorithm.ensures.refused ∙ sym c.in_ok-sizes.ensures.refused) refl

pub invariant_of-result : goal.invariant_of-result
invariant_of-result g c =
    let short = c.in_ok-sizes.ensures.short_salt in
    let len = ap length c.in-Ok.ensures.value ∙ length-within c.args.bytes.now 88 c.in_ok-sizes.sizes.salt_size (omega arith) in
    record {
      data_size = c.in_ok-sizes.ensures.data_sized;
      hash_size = c.in_ok-sizes.ensures.hash_sized;
      count = c.in_ok-sizes.ensures.counted;
      salt = omega arith;
      uuid = ap length c.read_uuid.ensures ∙ length-take-le 16 (drop 16 c.args.bytes.now) (omega (arith, length-drop 16 c.args.bytes.now));
    }

pub returns-clause-reads : goal.returns-clause-reads
returns-clause-reads g c =
    let kind = kind_refusal-none c.args.bytes.now c.in_ok-algorithm.ensures.refused in
    record {
      whole = c.if-bytes-lt512.false;
      signature = kind.signature;
      version = kind.version;
      hash_type = kind.hash_type;
      uuid = sym c.read_uuid.ensures;
      algorithm = c.in_ok-algorithm.ensures.name;
      data_size = sym c.in_ok-sizes.ensures.data_size;
      hash_size = sym c.in_ok-sizes.ensures.hash_size;
      count = sym c.in_ok-sizes.ensures.count;
      salt_size = sym c.in_ok-sizes.ensures.salt_size
          ∙ sym (ap length c.in-Ok.ensures.value ∙ length-within c.args.bytes.now 88 c.in_ok-sizes.sizes.salt_size
          (omega (arith, c.in_ok-sizes.ensures.short_salt)));
      salt = ap (λ n. slice_range c.args.bytes.now 88 (88 + n)) (sym c.in_ok-sizes.ensures.salt_size) ∙ sym c.in-Ok.ensures.value;
    }

pub returns-clause-profile : goal.returns-clause-profile
returns-clause-profile g c = invariant_of-result g c

pub returns-clause-refused : goal.returns-clause-refused
returns-clause-refused g c =
    rw (refusal-size c.args.bytes.now c.if-bytes-lt512.false c.in_ok-algorithm.ensures.refused ∙ sym c.in_ok-sizes.ensures.refused)
    (search rules)
