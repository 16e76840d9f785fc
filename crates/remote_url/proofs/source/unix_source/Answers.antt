use Rattle.std.proofs.Common.{sym, ap, subst, ◌++◌}
use Rattle.std.specs.Prelude.{codes}
use Rattle.remote_url.specs.Grammar.{NamesNone}
use Rattle.remote_url.proofs.Refusals.{on_error_too, no_root}
use Rattle.remote_url.proofs.source.unix_source.Goals as goal

pub returns-in-Some-clause-refused : goal.returns-in-Some-clause-refused
returns-in-Some-clause-refused c =
    on_error_too c.socket_source.result _ _
    (subst NamesNone (ap (λ xs. codes "nbd+unix://" ++ xs) (sym c.in-Some.ensures))) c.socket_source.ensures.refused

pub returns-in-None-clause-refused : goal.returns-in-None-clause-refused
returns-in-None-clause-refused c =
    no_root _ c.in-None.ensures
