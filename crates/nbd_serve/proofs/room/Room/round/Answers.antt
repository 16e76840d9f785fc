use Rattle.std.proofs.Common.{◌∙◌, refl}
use Rattle.nbd_serve.proofs.Servings.{goes_on, goes_same}
use Rattle.nbd_serve.proofs.Tellings.{tells_none, tells_then}
use Rattle.nbd_serve.proofs.room.Room.round.Goals as goal

pub loop-preserved : goal.loop-preserved
loop-preserved g c = record {
  goes_on = goes_on g.E.Export.later g.met.E.Export.later_on _ _ _ c.loop.invariant.goes_on c.turns_at.ensures.goes_on;
  sessions = c.turns_at.ensures.sessions ∙ c.loop.invariant.sessions;
  told = tells_then _ _ _ _ _ _ c.loop.invariant.told c.in_ok-next.ensures.told;
  kept = λ begun k. c.turns_at.ensures.kept begun (c.loop.invariant.kept begun k);
}

pub loop-init : goal.loop-init
loop-init g c = record {
  goes_on = goes_same g.E.Export.later g.met.E.Export.later_same c.args.hub.now;
  sessions = refl;
  told = tells_none _ _;
  kept = λ begun k. k;
}

pub returns-in_err-next-clause-kept : goal.returns-in_err-next-clause-kept
returns-in_err-next-clause-kept g c = λ begun k. c.turns_at.ensures.kept begun (c.loop.invariant.kept begun k)

pub returns-in_err-left-clause-kept : goal.returns-in_err-left-clause-kept
returns-in_err-left-clause-kept g c = λ begun k. c.leave_stalled.ensures.kept begun (c.loop.invariant.kept begun k)

pub returns-then-goes_on-2-clause-told : goal.returns-then-goes_on-2-clause-told
returns-then-goes_on-2-clause-told g c = tells_then _ _ _ _ _ _ c.loop.invariant.told c.in_ok-left.ensures.told

pub returns-then-goes_on-2-clause-kept : goal.returns-then-goes_on-2-clause-kept
returns-then-goes_on-2-clause-kept g c = λ begun k. c.leave_stalled.ensures.kept begun (c.loop.invariant.kept begun k)

pub returns-else-goes_on-2-clause-told : goal.returns-else-goes_on-2-clause-told
returns-else-goes_on-2-clause-told g c = tells_then _ _ _ _ _ _ c.loop.invariant.told c.in_ok-left.ensures.told

pub returns-else-goes_on-2-clause-kept : goal.returns-else-goes_on-2-clause-kept
returns-else-goes_on-2-clause-kept g c = λ begun k. c.leave_stalled.ensures.kept begun (c.loop.invariant.kept begun k)
