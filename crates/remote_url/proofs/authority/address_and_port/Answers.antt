use Rattle.remote_url.proofs.Refusals.{on_error}
use Rattle.remote_url.proofs.Hosts.{no_bracket, no_address, no_port_behind}
use Rattle.remote_url.proofs.authority.address_and_port.Goals as goal

pub returns-in_err-check_address-in-Some-clause-refused : goal.returns-in_err-check_address-in-Some-clause-refused
returns-in_err-check_address-in-Some-clause-refused c =
    on_error c.from_residual.result _
    (no_address _ _ _ _ _ c.requires c.in-Some.ensures.parts c.in-Some.ensures.before c.in_err-check_address-in-Some.ensures.none)

pub returns-in_err-port-in-Some-clause-refused : goal.returns-in_err-port-in-Some-clause-refused
returns-in_err-port-in-Some-clause-refused c =
    on_error c.from_residual-in_err-port-in-Some.result _
    (no_port_behind _ _ _ _ _ c.requires c.in-Some.ensures.parts c.in-Some.ensures.before c.in_err-port-in-Some.ensures.none)

pub returns-in-None-clause-refused : goal.returns-in-None-clause-refused
returns-in-None-clause-refused c =
    no_bracket _ _ _ c.requires c.in-None.ensures.none
