use Rattle.remote_url.proofs.Refusals.{on_error, no_query, other_query, no_plain_name, no_socket, no_plain_socket}
use Rattle.remote_url.proofs.source.socket_source.Goals as goal

pub returns-in_err-check_plain-in-Some-behind-clause-refused : goal.returns-in_err-check_plain-in-Some-behind-clause-refused
returns-in_err-check_plain-in-Some-behind-clause-refused c =
    on_error c.from_residual.result _
    (no_plain_name _ _ _ c.in-Some.ensures.parts c.in-Some.ensures.before c.in_err-check_plain-in-Some-behind.ensures.none)

pub returns-in_err-check_some-in-Some-behind-clause-refused : goal.returns-in_err-check_some-in-Some-behind-clause-refused
returns-in_err-check_some-in-Some-behind-clause-refused c =
    on_error c.from_residual-in_err-check_some-in-Some-behind.result _
    (no_socket _ _ _ _ c.in-Some.ensures.parts c.in-Some.ensures.before c.in-Some-behind.ensures
    c.in_err-check_some-in-Some-behind.ensures.none)

pub returns-in_err-check_plain-in-Some-behind-2-clause-refused : goal.returns-in_err-check_plain-in-Some-behind-2-clause-refused
returns-in_err-check_plain-in-Some-behind-2-clause-refused c =
    on_error c.from_residual-in_err-check_plain-in-Some-behind-2.result _
    (no_plain_socket _ _ _ _ c.in-Some.ensures.parts c.in-Some.ensures.before c.in-Some-behind.ensures
    c.in_err-check_plain-in-Some-behind-2.ensures.none)

pub returns-in-None-behind-clause-refused : goal.returns-in-None-behind-clause-refused
returns-in-None-behind-clause-refused c =
    other_query _ _ _ c.in-Some.ensures.parts c.in-Some.ensures.before c.in-None-behind.ensures

pub returns-in-None-clause-refused : goal.returns-in-None-clause-refused
returns-in-None-clause-refused c =
    no_query _ c.in-None.ensures.none
