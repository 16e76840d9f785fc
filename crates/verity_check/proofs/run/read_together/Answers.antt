use Rattle.std.proofs.Common.{◌+◌, sym, subst}
use Rattle.std.specs.Fork.{slice_chunk}
use Rattle.verity_store.specs.Given.{GaveSince}
use Rattle.verity_store.proofs.RunLemmas.{since_run}
use Rattle.verity_check.proofs.run.read_together.Goals as goal

pub returns-in-Ok-clause-given : goal.returns-in-Ok-clause-given
returns-in-Ok-clause-given g c = λ mark marked j lt.
    let S = g.S.BlockStore in
    subst (λ log. GaveSince log mark (c.args.first + j) (slice_chunk c.read_run.new.out (S.size c.args.store.now) j))
    (sym c.in-Ok.ensures.given)
    (since_run (S.given c.args.store.now) mark c.args.first (S.size c.args.store.now) c.args.count c.read_run.new.out marked j lt)
