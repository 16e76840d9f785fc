use Rattle.std.proofs.Common.{rules}
use Rattle.cli_faults.specs.declared.failure.Word.TheVariants as word
use Rattle.cli_serve.specs.Blamed.{TalkBlames}
use Rattle.cli_serve.proofs.Blaming.{by_number, starved, told}
use Rattle.cli_serve.proofs.Refusing.{of_memory}
use Rattle.cli_serve.proofs.Talks.{talked}
use Rattle.cli_serve.proofs.talking.talk.Goals as goal

pub returns-clause-ended : goal.returns-clause-ended
returns-clause-ended g c = told c.ended.result _ _ _ c.serve_stream-served.result c.ended.ensures.status
    (talked _ _ c.serve_stream-served.result c.args.words.now _ c.in_ok-hub.hub _ c.in_ok-hub.ensures.line c.in_ok-hub.ensures.made
    c.in_ok-hub.ensures.offer c.serve_stream-served.ensures.verifier c.serve_stream-served.ensures.served
    c.serve_stream-served.ensures.right) c.serve_stream-served.ensures.read_failed c.serve_stream-served.ensures.write_failed

pub returns-clause-blames : goal.returns-clause-blames
returns-clause-blames g c = starved c.ended.result c.args.words.now c.ended.ensures.refused

pub returns-clause-system : goal.returns-clause-system
returns-clause-system g c = of_memory _ c.ended.result c.ended.ensures.refused

pub returns-in_err-data_cache-clause-blames : goal.returns-in_err-data_cache-clause-blames
returns-in_err-data_cache-clause-blames g c = by_number c.from_residual-in_err-data_cache.result word.DataCache
    c.args.words.now.data_cache.now c.in_err-data_cache.field-0.0 (TalkBlames c.args.words.now) (λ is. is)
    c.from_residual-in_err-data_cache.ensures.1 (search rules)
