use Rattle.std.proofs.Common.{◌≡◌, ◌≢◌, refl, sym, ap, ◌∙◌, rules, ℕ, List, subst, None, Some, Err, Ok}
use Rattle.hex.specs.Hex.{decode_of}
use Rattle.std.proofs.lemmas.Bool.{true_from_ne_false}
use Rattle.verity_superblock.specs.Line.{number, IsSaltOf, is_salt, line_refusal, numbers_refusal, digest_refusal, salt_refusal}
use Rattle.verity_superblock.proofs.InTurn.{or-first, or-next, one-taken}
use Rattle.verity_superblock.proofs.LineReads.{at_place, line_refusal-none, line_refusal-shape, line_refusal-cut, salt-exit, line-said}
use Rattle.verity_superblock.proofs.table.Table.parse.Goals as goal

pub returns-in_err-fields-clause-refused : goal.returns-in_err-fields-clause-refused
returns-in_err-fields-clause-refused g c =
    rw (line_refusal-shape c.args.text.now c.in_err-fields.field-0.0 c.in_err-fields.ensures.refused) (search rules)

pub returns-in_err-numbers-clause-refused : goal.returns-in_err-numbers-clause-refused
returns-in_err-numbers-clause-refused g c =
    rw (line_refusal-cut c.args.text.now _ _ _ _ _ _ _ _ _ c.in_ok-fields.ensures.fields c.in_ok-fields.ensures.refused
    ∙ or-first _ _ c.in_err-numbers.field-0.0 c.in_err-numbers.ensures.refused) (search rules)

pub returns-in_err-root-clause-refused : goal.returns-in_err-root-clause-refused
returns-in_err-root-clause-refused g c =
    rw (line_refusal-cut c.args.text.now _ _ _ _ _ _ _ _ _ c.in_ok-fields.ensures.fields c.in_ok-fields.ensures.refused
    ∙ or-next _ _ c.in_ok-numbers.ensures.refused
    ∙ or-first _ _ c.in_err-root.field-0.0 c.in_err-root.ensures.refused) (search rules)

pub returns-in_err-salt-clause-refused : goal.returns-in_err-salt-clause-refused
returns-in_err-salt-clause-refused g c =
    rw (line_refusal-cut c.args.text.now _ _ _ _ _ _ _ _ _ c.in_ok-fields.ensures.fields c.in_ok-fields.ensures.refused
    ∙ or-next _ _ c.in_ok-numbers.ensures.refused ∙ or-next _ _ c.in_ok-root.ensures.refused)
    (let back : c.from_residual-in_err-salt.result ≡ Err c.in_err-salt.field-0.0 = search rules in
    salt-exit c.in_ok-fields.fields.salt.now c.from_residual-in_err-salt.result c.in_err-salt.field-0.0 back
    c.in_err-salt.ensures.refused c.in_err-salt.ensures.taken)

pub returns-in_default-clause-refused : goal.returns-in_default-clause-refused
returns-in_default-clause-refused g c =
    rw (line_refusal-none c.args.text.now _ _ _ _ _ _ _ _ _ c.in_ok-fields.ensures.fields c.in_ok-fields.ensures.refused
    c.in_ok-numbers.ensures.refused c.in_ok-root.ensures.refused
    (λ bad. let told = c.in_ok-salt.ensures.refused bad in cc)) refl

pub returns-in_default-from_str-clause-refused : goal.returns-in_default-from_str-clause-refused
returns-in_default-from_str-clause-refused g c =
    rw (line_refusal-none c.args.text.now _ _ _ _ _ _ _ _ _ c.in_ok-fields.ensures.fields c.in_ok-fields.ensures.refused
    c.in_ok-numbers.ensures.refused c.in_ok-root.ensures.refused
    (λ bad. let told = c.in_ok-salt.ensures.refused bad in cc)) refl

pub returns-clause-line : goal.returns-clause-line
returns-clause-line g c =
    let cut = c.in_ok-fields.ensures.fields in
    line-said c.args.text.now _ (line_refusal-none c.args.text.now _ _ _ _ _ _ _ _ _ c.in_ok-fields.ensures.fields
    c.in_ok-fields.ensures.refused c.in_ok-numbers.ensures.refused c.in_ok-root.ensures.refused
    (λ bad. let told = c.in_ok-salt.ensures.refused bad in cc)) (record {
      dev = at_place c.args.text.now 1 _ cut ∙ sym c.in-Ok.ensures.ok;
      hash_dev = at_place c.args.text.now 2 _ cut ∙ sym c.in-Ok-from_str.ensures.ok;
      data_size = ap number (at_place c.args.text.now 3 _ cut) ∙ c.in_ok-numbers.ensures.data_size.value;
      hash_size = ap number (at_place c.args.text.now 4 _ cut) ∙ c.in_ok-numbers.ensures.hash_size.value;
      count = ap number (at_place c.args.text.now 5 _ cut) ∙ c.in_ok-numbers.ensures.count.value;
      start = ap number (at_place c.args.text.now 6 _ cut) ∙ c.in_ok-numbers.ensures.start.value;
      algorithm = refl;
      digest = ap decode_of (at_place c.args.text.now 8 _ cut) ∙ c.in_ok-root.ensures.value;
      salt = subst (λ (d : List ℕ). IsSaltOf d c.in_ok-salt.salt) (sym (at_place c.args.text.now 9 _ cut)) c.in_ok-salt.ensures.value;
    })

pub invariant_of-result : goal.invariant_of-result
invariant_of-result g c = (returns-clause-line g c).values

pub returns-clause-refused : goal.returns-clause-refused
returns-clause-refused g c =
    rw (line_refusal-none c.args.text.now _ _ _ _ _ _ _ _ _ c.in_ok-fields.ensures.fields c.in_ok-fields.ensures.refused
    c.in_ok-numbers.ensures.refused c.in_ok-root.ensures.refused
    (λ bad. let told = c.in_ok-salt.ensures.refused bad in cc)) tt
