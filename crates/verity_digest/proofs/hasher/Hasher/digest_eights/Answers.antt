use Rattle.std.proofs.Common.{◌≡◌, ◌≢◌, ℕ, ◌+◌, ◌-◌, ◌*◌, ◌≤◌, ◌++◌, ◌∙◌, List, [], length, ap, arith, inl, inr, refl}
use Rattle.std.proofs.lemmas.Bool.{cases_lt}
use Rattle.std.proofs.lemmas.List.{get_or-set_same, get_or-set_other, length-set}
use Rattle.std.proofs.Math.Nat.{mul-le-mul_left}
use Rattle.sha2.specs.Sha256.{sha256}
use Rattle.verity_digest.proofs.Groups.{block_in_group}
use Rattle.verity_digest.specs.Hash.{Salted, salted_digest}
use Rattle.verity_digest.specs.declared.algorithm.Algorithm.TheVariants.{Sha256}
use Rattle.verity_digest.proofs.hasher.Hasher.digest_eights.Goals as goal

sha256_salted : (s : Salted) (salt block : List ℕ) → s.algorithm ≡ Sha256 → salt ≡ s.salt → sha256 (salt ++ block) ≡ salted_digest s block
sha256_salted s salt block ea es = rw (ea, es) refl

pub slice_bounds-digest_eight-end : goal.slice_bounds-digest_eight-end
slice_bounds-digest_eight-end g c =
    let below : 8 * c.groups.g + 8 ≤ length c.args.out.now = omega (arith, c.groups.invariant.4) in
    omega (arith, mul-le-mul_left c.args.size below)

pub lanes-preserved : goal.lanes-preserved
lanes-preserved g c =
    let at = 8 * c.groups.g + c.lanes.j in
    let s = c.args.self.now.salted in
    let below : 8 * c.groups.g + 8 ≤ length c.args.out.now = omega (arith, c.groups.invariant.4) in (
      length-set c.lanes.out at _ ∙ c.lanes.invariant.0,
      omega (arith, c.step.ensures, c.lanes.invariant.1),
      c.lanes.invariant.2,
      λ k upto. elim (cases_lt k at) [
        | inl lt ↦
            let other : k ≢ at = omega arith in
            get_or-set_other c.lanes.out at k _ [] other ∙ c.lanes.invariant.3 k lt
        | inr ge ↦
            let e : at ≡ k = omega arith in
            let start = 8 * c.groups.g * c.args.size in
            let width : start + 8 * c.args.size - start ≡ 8 * c.args.size = omega arith in
            let place : start ≡ (8 * c.groups.g) * c.args.size = omega arith in
            let salt : c.bytes.result.now ≡ s.salt = c.bytes.ensures.value ∙ ap (λ (r : Salted). r.salt) c.groups.invariant.2 in
            rw (← e) (get_or-set_same c.lanes.out at _ [] (omega (arith, c.lanes.invariant.0))
            ∙ c.from_bytes.ensures ∙ c.digest_eight-group.ensures c.lanes.j (omega arith)
            ∙ ap (λ b. sha256 (c.bytes.result.now ++ b))
            (rw width (block_in_group c.args.blocks.now c.args.size start c.lanes.j 8 (8 * c.groups.g) (omega arith) place))
            ∙ sha256_salted s c.bytes.result.now _ c.requires.algorithm salt)
      ],
    )
