use Rattle.std.proofs.Common.{arith}
use Rattle.verity_chain.proofs.FewLemmas.{unnoted_from}
use Rattle.verity_chain.proofs.notes.find.Goals as goal

pub returns-clause-none : goal.returns-clause-none
returns-clause-none g c = λ _.
    unnoted_from c.args.notes.now c.args.number (λ d below. c.loop-c.invariant.none d
    (let stop = c.loop-c-test.false in let end = c.loop-c.auto.c-end in omega arith))
