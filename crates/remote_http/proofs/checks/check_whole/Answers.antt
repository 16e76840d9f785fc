use Rattle.std.specs.Prelude.{codes}
use Rattle.remote_http.proofs.FieldLemmas.{has_none, not_none}
use Rattle.remote_http.proofs.checks.check_whole.Goals as goal

pub returns-in-Never-clause-whole : goal.returns-in-Never-clause-whole
returns-in-Never-clause-whole c = has_none _ _ (codes "transfer-encoding") c.in-Never.ensures

pub returns-in_default-clause-refused : goal.returns-in_default-clause-refused
returns-in_default-clause-refused c =
    not_none _ _ (codes "transfer-encoding") c.find_field.result c.in_default.not-Never c.find_field.ensures
