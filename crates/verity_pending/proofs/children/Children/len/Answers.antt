use Rattle.std.proofs.Common.{length, arith, ap}
use Rattle.verity_pending.proofs.ChildLemmas.{length_all}
use Rattle.verity_pending.proofs.children.Children.len.Goals as goal

pub returns : goal.returns
returns g c =
    let s = c.self.inside in
    let all = length_all s.named.items s.common s.before s.from s.to s.behind.items c.self.invariant.before in
    let same = ap (λ (x : Rattle.verity_pending.specs.Children.Listed). length x.items) c.self.view_is in
    let behind = c.len.ensures in
    omega arith
