use Rattle.remote_url.proofs.Refusals.{on_error, http_no_slash, http_no_server, http_no_path}
use Rattle.remote_url.proofs.source.http_source.Goals as goal

pub returns-in_err-server-in-Some-clause-refused : goal.returns-in_err-server-in-Some-clause-refused
returns-in_err-server-in-Some-clause-refused c =
    on_error c.from_residual.result _
    (http_no_server _ _ _ c.in-Some.ensures.parts c.in-Some.ensures.before c.in_err-server-in-Some.ensures.refused)

pub returns-in_err-check_path-in-Some-clause-refused : goal.returns-in_err-check_path-in-Some-clause-refused
returns-in_err-check_path-in-Some-clause-refused c =
    on_error c.from_residual-in_err-check_path-in-Some.result _
    (http_no_path _ _ _ c.in-Some.ensures.parts c.in-Some.ensures.before c.in_err-check_path-in-Some.ensures.none)

pub returns-in_err-authority_of-in-None-clause-refused : goal.returns-in_err-authority_of-in-None-clause-refused
returns-in_err-authority_of-in-None-clause-refused c =
    on_error c.from_residual-in_err-authority_of-in-None.result _ (http_no_slash _ c.in-None.ensures.none)

pub returns-in_ok-authority_of-in-None-clause-refused : goal.returns-in_ok-authority_of-in-None-clause-refused
returns-in_ok-authority_of-in-None-clause-refused c =
    http_no_slash _ c.in-None.ensures.none
