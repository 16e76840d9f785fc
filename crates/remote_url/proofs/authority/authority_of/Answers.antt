use Rattle.remote_url.proofs.Refusals.{on_error_too}
use Rattle.remote_url.proofs.Hosts.{opened_none, unopened_none}
use Rattle.remote_url.proofs.authority.authority_of.Goals as goal

pub returns-in-Some-clause-refused : goal.returns-in-Some-clause-refused
returns-in-Some-clause-refused c =
    on_error_too c.address_and_port.result _ _ (opened_none _ _ _ c.in-Some.ensures) c.address_and_port.ensures.refused

pub returns-in-None-clause-refused : goal.returns-in-None-clause-refused
returns-in-None-clause-refused c =
    on_error_too c.name_and_port.result _ _ (unopened_none _ _ c.in-None.ensures) c.name_and_port.ensures.refused
