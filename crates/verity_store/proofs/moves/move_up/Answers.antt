use Rattle.std.proofs.Common.{◌+◌, ◌-◌, arith, ◌∙◌}
use Rattle.verity_store.proofs.GivenLemmas.{goes_on_then}
use Rattle.verity_store.proofs.MoveLemmas.{ChangesWithin-part, ChangesWithin-then, moved_up_more}
use Rattle.verity_store.proofs.moves.move_up.Goals as goal

pub loop-left-preserved : goal.loop-left-preserved
loop-left-preserved g c =
    let before = c.loop-left.invariant in
    let one = c.in_ok-move_block.ensures in
    let old = g.S.BlockStore.content c.args.store.now in
    let now = g.S.BlockStore.content c.loop-left.store in
    let new = g.S.BlockStore.content c.move_block.new.store in
    let left = c.loop-left.left in
    let rest = c.loop-left.left - 1 in
    let to = c.args.to in
    record {
      low = omega arith;
      moved = λ told. moved_up_more c.args.from to c.args.count left rest old now new c.requires.up (omega arith) before.low
          (before.moved told) before.others (one.moved (before.tells ∙ told)) one.others;
      others = ChangesWithin-then (to + rest) (c.args.count - rest) old now new
          (ChangesWithin-part (to + rest) (c.args.count - rest) (to + left) (c.args.count - left) old now (omega arith)
          (omega arith) before.others)
          (ChangesWithin-part (to + rest) (c.args.count - rest) (to + rest) 1 now new (omega arith) (omega arith) one.others);
      tells = one.tells ∙ before.tells;
      size = one.size ∙ before.size;
      fixed = one.fixed ∙ before.fixed;
      room = one.room ∙ before.room;
      failures = one.unfailed ∙ before.failures;
      reads = omega arith;
      changes = omega arith;
      gave = goes_on_then _ _ _ before.gave one.gave;
    }
