use Rattle.std.proofs.Common.{Err, sym, ap, ◌∙◌, subst}
use Rattle.cli_faults.specs.Faults.{failure_of}
use Rattle.cli_faults.specs.declared.fault.Fault.TheVariants as fault
use Rattle.os_commit_flag.specs.Shut.{IsShutBeside}
use Rattle.cli_serve.proofs.Unopened.{of_check, of_made, unmade, unopened}
use Rattle.cli_serve.proofs.opened.open_hub.Goals as goal

pub returns-clause-shut : goal.returns-clause-shut
returns-clause-shut g c = subst (λ device. IsShutBeside g.S.System c.args.system.now device)
    (sym (ap (λ v. v.table.hash_dev) c.noticed.ensures.verifier ∙ ap (λ v. v.table.hash_dev) c.in_ok-verifier.ensures.value))
    c.in_ok-data_store.ensures.shut

pub returns-in_err-verifier-clause-refused : goal.returns-in_err-verifier-clause-refused
returns-in_err-verifier-clause-refused g c =
    of_made c.from_residual-in_err-verifier.result (failure_of (fault.Check c.in_err-verifier.field-0.0)) _
    c.from_residual-in_err-verifier.ensures.1
    (unmade g.S.System c.args.system.now c.args.command c.args.line.now c.args.name.now c.args.cache c.args.data_cache
    c.in_err-verifier.field-0.0
    (λ is. (c.in_err-verifier.ensures.cache_size.0 (ap Err is)).1) c.in_err-verifier.ensures.error)

pub returns-in_err-verifier-clause-system : goal.returns-in_err-verifier-clause-system
returns-in_err-verifier-clause-system g c =
    of_made c.from_residual-in_err-verifier.result (failure_of (fault.Check c.in_err-verifier.field-0.0)) _
    c.from_residual-in_err-verifier.ensures.1 (of_check _ c.in_err-verifier.field-0.0)

pub returns-in_err-data_store-clause-refused : goal.returns-in_err-data_store-clause-refused
returns-in_err-data_store-clause-refused g c =
    of_made c.from_residual-in_err-data_store.result c.in_err-data_store.field-0.0 _ c.from_residual-in_err-data_store.ensures.1
    (unopened g.S.System c.args.system.now c.args.command c.in_ok-table.table c.args.line.now c.args.name.now c.args.cache
    c.args.data_cache c.in_err-data_store.field-0.0 c.in_ok-table.ensures.line c.in_err-data_store.ensures.refused)
