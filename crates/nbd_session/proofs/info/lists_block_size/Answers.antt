use Rattle.std.proofs.Common.{sym, ◌∙◌, arith}
use Rattle.nbd_session.proofs.InfoTypes.{lists_next}
use Rattle.nbd_session.proofs.info.lists_block_size.Goals as goal

pub loop-left-preserved : goal.loop-left-preserved
loop-left-preserved c = let i = c.loop-left.invariant in record {
  room = omega arith;
  same = sym (lists_next c.loop-left.left 3 c.loop-left.place c.args.types.now (omega arith)
      (λ e. c.if-u16_at-eq-NBD_INFO_BLOCK_SIZE.false (c.u16_at.ensures ∙ e))) ∙ i.same;
}
