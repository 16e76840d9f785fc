use Rattle.remote_read_ahead.proofs.HeldLemmas.{read_from_one}
use Rattle.remote_read_ahead.proofs.ahead.Ahead.give.Goals as goal

pub returns : goal.returns
returns g c = λ _.
    read_from_one _ c.args.self.now.windows.items c.deref.result.now c.in_ok-index.index c.index.result.now c.args.at _ c.copy.new.out
    c.args.self.now.held c.deref.ensures.value c.in_ok-index.ensures.within c.in_ok-index.ensures.spans c.index.ensures
    c.copy.auto.out c.copy.ensures
