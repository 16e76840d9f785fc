use Rattle.std.proofs.Common.{subst}
use Rattle.os_commit_flag.specs.Refusals.{IsUnshut}
use Rattle.os_commit_flag.specs.Shut.{IsOpenBeside, IsUnusableBeside}
use Rattle.cli_serve.proofs.Unopened.{of_made, unshut}
use Rattle.cli_serve.proofs.opened.open_stores.Goals as goal

pub returns-in_err-check_gate-clause-refused : goal.returns-in_err-check_gate-clause-refused
returns-in_err-check_gate-clause-refused g c =
    let S = g.S.System in
    let system = c.args.system.now in
    let e = c.in_err-check_gate.field-0.0 in
    of_made c.from_residual-in_err-check_gate.result e _ c.from_residual-in_err-check_gate.ensures.1
    (unshut S system c.args.command c.args.table.now e
    (subst (λ path. IsUnshut (IsOpenBeside S system path) (IsUnusableBeside S system path) e) c.hash_dev.ensures
    c.in_err-check_gate.ensures.refused))
