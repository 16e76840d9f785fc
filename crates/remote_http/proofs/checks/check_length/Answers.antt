use Rattle.std.proofs.Common.{rules, ◌≡◌, ◌∙◌}
use Rattle.std.specs.Prelude.{codes}
use Rattle.remote_http.proofs.FieldLemmas.{has_value}
use Rattle.remote_http.proofs.checks.check_length.Goals as goal

pub returns : goal.returns
returns c =
    let same : c.of.result.now ≡ c.as_slice.result.now = search rules in
    has_value _ _ (codes "content-length") c.of.result.now _ c.in-Once.k _ c.in-Once.ensures c.of.ensures
    (same ∙ c.as_slice.ensures.value ∙ c.in_ok-put_length.ensures)
