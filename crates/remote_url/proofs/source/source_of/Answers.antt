use Rattle.std.proofs.Common.{sym, subst}
use Rattle.remote_url.specs.Grammar.{NamesNone}
use Rattle.remote_url.proofs.Refusals.{of_http, of_nbd, of_unix, on_error_too}
use Rattle.remote_url.proofs.source.source_of.Goals as goal

pub returns-in-Some-clause-scheme : goal.returns-in-Some-clause-scheme
returns-in-Some-clause-scheme c =
    of_http _ _ _ c.in-Some.ensures

pub returns-in-Some-behind-clause-scheme : goal.returns-in-Some-behind-clause-scheme
returns-in-Some-behind-clause-scheme c =
    of_nbd _ _ _ c.in-Some-behind.ensures

pub returns-in-Some-behind-2-clause-scheme : goal.returns-in-Some-behind-2-clause-scheme
returns-in-Some-behind-2-clause-scheme c =
    of_unix _ _ _ c.in-Some-behind-2.ensures

pub returns-in-Some-behind-2-clause-refused : goal.returns-in-Some-behind-2-clause-refused
returns-in-Some-behind-2-clause-refused c =
    on_error_too c.unix_source.result _ _ (subst NamesNone (sym c.in-Some-behind-2.ensures)) c.unix_source.ensures.refused
