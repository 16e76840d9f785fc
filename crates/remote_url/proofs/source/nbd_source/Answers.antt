use Rattle.remote_url.proofs.Refusals.{on_error, nbd_no_server, nbd_no_name, nbd_no_server_alone}
use Rattle.remote_url.proofs.source.nbd_source.Goals as goal

pub returns-in_err-server-in-Some-clause-refused : goal.returns-in_err-server-in-Some-clause-refused
returns-in_err-server-in-Some-clause-refused c =
    on_error c.from_residual.result _
    (nbd_no_server _ _ _ c.in-Some.ensures.parts c.in-Some.ensures.before c.in_err-server-in-Some.ensures.refused)

pub returns-in_err-check_plain-in-Some-clause-refused : goal.returns-in_err-check_plain-in-Some-clause-refused
returns-in_err-check_plain-in-Some-clause-refused c =
    on_error c.from_residual-in_err-check_plain-in-Some.result _
    (nbd_no_name _ _ _ c.in-Some.ensures.parts c.in-Some.ensures.before c.in_err-check_plain-in-Some.ensures.none)

pub returns-in_err-server-in-None-clause-refused : goal.returns-in_err-server-in-None-clause-refused
returns-in_err-server-in-None-clause-refused c =
    on_error c.from_residual-in_err-server-in-None.result _
    (nbd_no_server_alone _ c.in-None.ensures.none c.in_err-server-in-None.ensures.refused)
