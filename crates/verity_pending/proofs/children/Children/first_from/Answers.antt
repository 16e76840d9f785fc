use Rattle.std.proofs.Common.{ℕ, ◌+◌, ◌-◌, ◌/◌, ◌<◌, List, get_or, arith, ap}
use Rattle.std.proofs.lemmas.Bool.{lt-ltb, le-ltb}
use Rattle.std.proofs.lemmas.List.{get_or_default}
use Rattle.verity_pending.specs.declared.child.Child.{Child}
use Rattle.verity_pending.specs.Slots.{nobody}
use Rattle.verity_pending.proofs.children.Children.first_from.Goals as goal

pub loop-least-preserved-then-at-number : goal.loop-least-preserved-then-at-number
loop-least-preserved-then-at-number g c =
    let inv = c.loop-least.invariant in
    let items : List Child = c.args.self.now.items in
    let middle : ℕ = c.loop-least.least + (c.loop-least.most - c.loop-least.least) / 2 in
    let test = c.loop-least-test.true in
    let most = inv.most in
    let below : middle < c.loop-least.most = omega arith in
    let here = ap (λ child. child.number) c.at.ensures in
    let less = c.if-at-number.true in
    record {
      order = omega arith;
      most = most;
      low = λ rising k d _ lt.
          let order = rising k middle d (omega arith) (omega arith) in
          let same = ap (λ child. child.number) (get_or_default items middle d nobody (omega arith)) in
          lt-ltb (get_or items k d).number c.args.number (omega arith);
      high = inv.high;
    }

pub loop-least-preserved : goal.loop-least-preserved
loop-least-preserved g c =
    let inv = c.loop-least.invariant in
    let items : List Child = c.args.self.now.items in
    let middle : ℕ = c.loop-least.least + (c.loop-least.most - c.loop-least.least) / 2 in
    let test = c.loop-least-test.true in
    let most = inv.most in
    let below : middle < c.loop-least.most = omega arith in
    let here = ap (λ child. child.number) c.at.ensures in
    let not_less = c.if-at-number.false in
    record {
      order = omega arith;
      most = omega arith;
      low = inv.low;
      high = λ rising k d le lt.
          let order = rising middle k d le lt in
          let same = ap (λ child. child.number) (get_or_default items middle d nobody (omega arith)) in
          le-ltb (get_or items k d).number c.args.number (omega arith);
    }
