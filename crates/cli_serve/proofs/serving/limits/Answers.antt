use Rattle.std.proofs.Common.{rules}
use Rattle.cli_faults.specs.declared.failure.Word.TheVariants as word
use Rattle.cli_serve.specs.Blamed.{ServeBlames}
use Rattle.cli_serve.proofs.Blaming.{by_number}
use Rattle.cli_serve.proofs.serving.limits.Goals as goal

pub returns-in_err-idle-clause-blames : goal.returns-in_err-idle-clause-blames
returns-in_err-idle-clause-blames c = by_number c.from_residual-in_err-idle.result word.Idle c.args.words.now.idle.now
    c.in_err-idle.field-0.0 (ServeBlames c.args.words.now) (λ is. is) c.from_residual-in_err-idle.ensures.1 (search rules)

pub returns-in_err-stall-clause-blames : goal.returns-in_err-stall-clause-blames
returns-in_err-stall-clause-blames c = by_number c.from_residual-in_err-stall.result word.Stall c.args.words.now.stall.now
    c.in_err-stall.field-0.0 (ServeBlames c.args.words.now) (λ is. is) c.from_residual-in_err-stall.ensures.1 (search rules)
