use Rattle.std.proofs.Common.{◌≡◌, ◌∷◌, [], ◌+◌, ◌==◌, ℕ, List, length, sym, ap, ◌∙◌, arith, nat_lt, nat_eq}
use Rattle.std.specs.Prelude.{codes}
use Rattle.std.specs.List.{list_all}
use Rattle.std.proofs.lemmas.Bool.{and_parts, eqb-true, not-false}
use Rattle.std.specs.Cmp.Lexicographic.{pointwise, same_text}
use Rattle.verity_superblock.specs.Line.{fields_of}
use Rattle.verity_superblock.proofs.Splits.{fields_of-last}
use Rattle.verity_superblock.proofs.line.read_fields.Goals as goal

pub returns-clause-fields : goal.returns-clause-fields
returns-clause-fields c =
    let ten = and_parts (length (fields_of c.args.text.now) == 10)
    (list_all (λ (f : List ℕ). nat_lt 0 (length f)) (fields_of c.args.text.now)) (sym c.ten_fields.ensures
    ∙ c.if-not-ten_fields.false) in
    let whole : length (fields_of c.args.text.now) ≡ 10 = eqb-true (length (fields_of c.args.text.now)) 10 ten.0 in
    let version : c.cut.result.0.now ≡ codes "1" =
    same_text c.cut.result.0.now (codes "1")
    (sym (not-false (pointwise nat_eq c.cut.result.0.now (codes "1")) (sym c.if-ne.ensures))) in
    let last : length (fields_of c.cut-9.result.1.now) ≡ 1 =
    omega (
      arith,
      c.cut.ensures.fewer,
      c.cut-2.ensures.fewer,
      c.cut-3.ensures.fewer,
      c.cut-4.ensures.fewer,
      c.cut-5.ensures.fewer,
      c.cut-6.ensures.fewer,
      c.cut-7.ensures.fewer,
      c.cut-8.ensures.fewer,
      c.cut-9.ensures.fewer,
    ) in
    c.cut.ensures.fields ∙ ap (λ v. v ∷ fields_of c.cut.result.1.now) version
    ∙ ap (λ fs. codes "1" ∷ fs) (c.cut-2.ensures.fields
    ∙ ap (λ fs. c.cut-2.result.0.now ∷ fs) (c.cut-3.ensures.fields
    ∙ ap (λ fs. c.cut-3.result.0.now ∷ fs) (c.cut-4.ensures.fields
    ∙ ap (λ fs. c.cut-4.result.0.now ∷ fs) (c.cut-5.ensures.fields
    ∙ ap (λ fs. c.cut-5.result.0.now ∷ fs) (c.cut-6.ensures.fields
    ∙ ap (λ fs. c.cut-6.result.0.now ∷ fs) (c.cut-7.ensures.fields
    ∙ ap (λ fs. c.cut-7.result.0.now ∷ fs) (c.cut-8.ensures.fields
    ∙ ap (λ fs. c.cut-8.result.0.now ∷ fs) (c.cut-9.ensures.fields
    ∙ ap (λ fs. c.cut-9.result.0.now ∷ fs) (fields_of-last c.cut-9.result.1.now last)))))))))
