use Rattle.std.proofs.Common.{rules, ◌≡◌, ◌<◌, arith, length, subst, true, false}
use Rattle.remote_http.specs.Found.{IsFoundBelow}
use Rattle.remote_http.proofs.FieldLemmas.{found_same, found_first, has_name, has_other}
use Rattle.remote_http.proofs.fields.find_field.Goals as goal
use Rattle.remote_http.proofs.fields.find_field.Goals.{then-eq_ignore_ascii_case+in-Never, else-eq_ignore_ascii_case}

no : false ≡ true → ⊥
no e = (cc)

pub fields-preserved : goal.fields-preserved
fields-preserved c =
    let within : c.fields.k < length c.args.fields.now = omega (arith, c.fields-test.true) in
    elim c.if-eq_ignore_ascii_case.branch [
      | then-eq_ignore_ascii_case+in-Never w ↦ rw w.found-is (found_first _ _ _ _
          (subst (IsFoundBelow c.args.buf.now c.args.fields.now c.args.name.now c.fields.k) w.in-Never.is c.fields.invariant)
          (has_name _ _ _ c.of.result.now c.fields.k _ within c.of.ensures (w.if-eq_ignore_ascii_case.ensures.test.0 (search rules))))
      | else-eq_ignore_ascii_case w ↦ rw w.found-is (found_same _ _ _ _ c.fields.found c.fields.invariant
          (has_other _ _ _ c.of.result.now c.fields.k _ within c.of.ensures
          (λ same. no (w.if-eq_ignore_ascii_case.ensures.test.1 same))))
    ]

pub returns : goal.returns
returns c =
    let all : c.fields.k ≡ length c.args.fields.now = omega (arith, c.fields-test.false, c.fields.auto.k-end) in
    subst (λ n. IsFoundBelow c.args.buf.now c.args.fields.now c.args.name.now n c.fields.found) all c.fields.invariant
