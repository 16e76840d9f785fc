use Rattle.std.proofs.Common.{◌+◌, arith, ◌∙◌}
use Rattle.verity_store.proofs.GivenLemmas.{goes_on_then}
use Rattle.verity_store.proofs.MoveLemmas.{ChangesWithin-part, ChangesWithin-then, moved_down_more}
use Rattle.verity_store.proofs.moves.move_down.Goals as goal

pub loop-i-preserved : goal.loop-i-preserved
loop-i-preserved g c =
    let before = c.loop-i.invariant in
    let one = c.in_ok-move_block.ensures in
    let old = g.S.BlockStore.content c.args.store.now in
    let now = g.S.BlockStore.content c.loop-i.store in
    let new = g.S.BlockStore.content c.move_block.new.store in
    record {
      moved = λ told. moved_down_more c.args.from c.args.to c.loop-i.i old now new c.requires.down (before.moved told) before.others
          (one.moved (before.tells ∙ told)) one.others;
      others = ChangesWithin-then c.args.to (c.loop-i.i + 1) old now new
          (ChangesWithin-part c.args.to (c.loop-i.i + 1) c.args.to c.loop-i.i old now (omega arith) (omega arith) before.others)
          (ChangesWithin-part c.args.to (c.loop-i.i + 1) (c.args.to + c.loop-i.i) 1 now new (omega arith) (omega arith) one.others);
      tells = one.tells ∙ before.tells;
      size = one.size ∙ before.size;
      fixed = one.fixed ∙ before.fixed;
      room = one.room ∙ before.room;
      failures = one.unfailed ∙ before.failures;
      reads = omega arith;
      changes = omega arith;
      gave = goes_on_then _ _ _ before.gave one.gave;
    }
