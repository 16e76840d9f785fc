use Rattle.remote_url.proofs.Refusals.{on_error}
use Rattle.remote_url.proofs.Hosts.{no_name, no_port, no_name_alone}
use Rattle.remote_url.proofs.authority.name_and_port.Goals as goal

pub returns-in_err-check_name-in-Some-clause-refused : goal.returns-in_err-check_name-in-Some-clause-refused
returns-in_err-check_name-in-Some-clause-refused c =
    on_error c.from_residual.result _
    (no_name _ _ _ _ c.in-Some.ensures.parts c.in-Some.ensures.before c.in_err-check_name-in-Some.ensures.none)

pub returns-in_err-port-in-Some-clause-refused : goal.returns-in_err-port-in-Some-clause-refused
returns-in_err-port-in-Some-clause-refused c =
    on_error c.from_residual-in_err-port-in-Some.result _
    (no_port _ _ _ _ c.in-Some.ensures.parts c.in-Some.ensures.before c.in_err-port-in-Some.ensures.none)

pub returns-in_err-check_name-in-None-clause-refused : goal.returns-in_err-check_name-in-None-clause-refused
returns-in_err-check_name-in-None-clause-refused c =
    on_error c.from_residual-in_err-check_name-in-None.result _
    (no_name_alone _ _ c.in-None.ensures.none c.in_err-check_name-in-None.ensures.none)
