use Rattle.std.proofs.Common.{rules, sym, ◌∙◌}
use Rattle.cli_faults.specs.declared.failure.Word.TheVariants as word
use Rattle.cli_serve.specs.Blamed.{ServeBlames}
use Rattle.cli_serve.proofs.Blaming.{by_number, by_sessions}
use Rattle.cli_serve.proofs.serving.serve.Goals as goal

pub returns-in_err-data_cache-clause-blames : goal.returns-in_err-data_cache-clause-blames
returns-in_err-data_cache-clause-blames g c = by_number c.from_residual-in_err-data_cache.result word.DataCache
    c.args.words.now.data_cache.now c.in_err-data_cache.field-0.0 (ServeBlames c.args.words.now) (λ is. is)
    c.from_residual-in_err-data_cache.ensures.1 (search rules)

pub returns-in_err-count-clause-blames : goal.returns-in_err-count-clause-blames
returns-in_err-count-clause-blames g c = by_sessions c.from_residual-in_err-count.result c.args.words.now.sessions.now
    c.in_err-count.field-0.0 (ServeBlames c.args.words.now) (λ is. is) c.from_residual-in_err-count.ensures.1 (search rules)

pub returns-clause-done : goal.returns-clause-done
returns-clause-done g c is = record {
  sessions = c.in_ok-count.count;
  asked = sym c.sessions.ensures ∙ c.in_ok-count.was;
  served = c.serve_over.ensures.done is;
}
