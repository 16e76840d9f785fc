use Rattle.std.proofs.Common.{rules, ◌≡◌, ◌∙◌, sym, inl, inr}
use Rattle.std.specs.Prelude.{codes}
use Rattle.remote_http.proofs.FieldLemmas.{has_none, has_value, not_plain, not_plain_often}
use Rattle.remote_http.proofs.checks.check_plain.Goals as goal

pub returns-in-Never-clause-plain : goal.returns-in-Never-clause-plain
returns-in-Never-clause-plain c = inl (has_none _ _ (codes "content-encoding") c.in-Never.ensures)

pub returns-else-ne-clause-plain : goal.returns-else-ne-clause-plain
returns-else-ne-clause-plain c =
    let same : c.of.result.now ≡ c.as_slice.result.now = search rules in
    inr (has_value _ _ (codes "content-encoding") c.of.result.now _ c.in-Once.k _ c.in-Once.ensures c.of.ensures
    (same ∙ c.as_slice.ensures))

pub returns-then-ne-clause-refused : goal.returns-then-ne-clause-refused
returns-then-ne-clause-refused c =
    let other : ¬ (c.of.result.now ≡ c.as_slice.result.now) = search rules in
    not_plain _ _ c.of.result.now c.in-Once.k _ c.in-Once.ensures c.of.ensures (λ is. other (is ∙ sym c.as_slice.ensures))

pub returns-in-Often-clause-refused : goal.returns-in-Often-clause-refused
returns-in-Often-clause-refused c = not_plain_often _ _ c.in-Often.ensures
