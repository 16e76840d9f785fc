use Rattle.std.proofs.Common.{◌≡◌, ℕ, ◌*◌, ◌-◌, ◌++◌, [], length, take, drop, replicate, arith, rules, ◌∙◌, ap}
use Rattle.std.proofs.lemmas.List.{drop_all, length-drop, append-nil}
use Rattle.verity_plan.proofs.RemadeLemmas.{remake_done}
use Rattle.verity_plan.proofs.plan.remake.Goals as goal

pub returns : goal.returns
returns g c = λ h new size can.
    let k = c.args.per_block in
    let fill = c.fill-end.ensures in
    let b = c.fill-end.new.block in
    let used : ℕ = c.args.len * c.args.size in
    let none : drop (length b - used) (drop used b) ≡ [] = drop_all (length b - used) (drop used b) (rw length-drop (omega arith)) in
    let filled : c.fill.new.self ≡ replicate (length b - used) 0 = search rules in
    let zeros : take used b ++ (c.fill.new.self ++ drop (length b - used) (drop used b)) ≡ take used b ++ replicate (length b - used) 0 =
    (λ i. take used b ++ (filled i ++ none i)) ∙ ap (λ z. take used b ++ z) (append-nil (replicate (length b - used) 0)) in
    remake_done c.args.size h new k c.args.index c.args.len c.args.children.now.items c.args.block.now c.fill-end.new.block _
    c.first_from-start.result c.fill-end.result
    size can c.requires.some c.requires.room c.requires.len fill.least fill.most
    (c.first_from-start.ensures.parted can.rising)
    fill.passed fill.stops fill.slots (omega arith) zeros
