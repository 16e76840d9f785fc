use Rattle.std.proofs.Common.{ℕ, ◌-◌, ◌<◌, drop, arith, ap, ◌∙◌}
use Rattle.verity_plan.proofs.CarriedLemmas.{carried, drop_set}
use Rattle.verity_plan.proofs.change.change_hash.Goals as goal

pub returns-clause-tree : goal.returns-clause-tree
returns-clause-tree g c =
    let before = g.H.BlockStore.content c.args.hash_store.now in
    let moved = g.H.BlockStore.content c.move_tree.new.hash_store in
    let made = g.H.BlockStore.content c.write_made.new.hash_store in
    let first : ℕ = c.args.change.now.first in
    λ told h e is.
    let told_moved = c.in_ok-move_tree.ensures.store.tells ∙ told in
    let told_made = c.in_ok-write_made.ensures.written_only.later.tells ∙ told_moved in
    let behind : first - 1 < first = omega arith in
    ap (drop first) (c.in_ok-write.ensures.written told_made)
    ∙ drop_set made first (first - 1) c.args.superblock.now behind
    ∙ carried h e c.args.change.now before moved made c.args.plan.now is (c.in_ok-move_tree.ensures.moved told)
    (c.in_ok-write_made.ensures.written told_moved) c.in_ok-write_made.ensures.others (c.in_ok-write_made.ensures.len
    ∙ c.in_ok-move_tree.ensures.len)
