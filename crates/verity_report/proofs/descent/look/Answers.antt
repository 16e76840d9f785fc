use Rattle.std.proofs.Common.{subst, sym}
use Rattle.verity_store.specs.Given.{GaveSince}
use Rattle.verity_store.proofs.GivenLemmas.{since_now}
use Rattle.verity_chain.proofs.ChainLemmas.{ok_here}
use Rattle.verity_report.proofs.descent.look.Goals as goal

pub returns-then-matches-clause-gave : goal.returns-then-matches-clause-gave
returns-then-matches-clause-gave g c = λ checked mark marked.
    let S = g.S.BlockStore in
    subst (λ log. GaveSince log mark c.args.number c.read.new.out)
    (sym (ok_here c.read.result _ c.read.ensures.given c.if-is_err.ensures.value))
    (since_now (S.given c.args.store.now) mark c.args.number c.read.new.out marked)

pub returns-else-matches-clause-gave : goal.returns-else-matches-clause-gave
returns-else-matches-clause-gave g c = λ checked mark marked.
    let S = g.S.BlockStore in
    subst (λ log. GaveSince log mark c.args.number c.read.new.out)
    (sym (ok_here c.read.result _ c.read.ensures.given c.if-is_err.ensures.value))
    (since_now (S.given c.args.store.now) mark c.args.number c.read.new.out marked)
