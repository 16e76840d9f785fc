use Rattle.std.proofs.Common.{◌∙◌, refl}
use Rattle.nbd_serve.proofs.Servings.{goes_on, goes_same}
use Rattle.nbd_serve.proofs.Tellings.{tells_none, tells_then}
use Rattle.nbd_serve.proofs.room.Room.leave_stalled.Goals as goal

pub loop-preserved : goal.loop-preserved
loop-preserved g c = record {
  goes_on = goes_on g.E.Export.later g.met.E.Export.later_on _ _ _ c.loop.invariant.goes_on c.leave_if_stalled.ensures.goes_on;
  sessions = c.leave_if_stalled.ensures.sessions ∙ c.loop.invariant.sessions;
  told = tells_then _ _ _ _ _ _ c.loop.invariant.told c.in_ok-next.ensures.told;
  kept = λ begun k. c.leave_if_stalled.ensures.kept begun (c.loop.invariant.kept begun k);
}

pub loop-init : goal.loop-init
loop-init g c = record {
  goes_on = goes_same g.E.Export.later g.met.E.Export.later_same c.args.hub.now;
  sessions = refl;
  told = tells_none _ _;
  kept = λ begun k. k;
}

pub returns-in_err-next-clause-kept : goal.returns-in_err-next-clause-kept
returns-in_err-next-clause-kept g c = λ begun k. c.leave_if_stalled.ensures.kept begun (c.loop.invariant.kept begun k)

pub returns-then-left-clause-told : goal.returns-then-left-clause-told
returns-then-left-clause-told g c = tells_then _ _ _ _ _ _ c.loop.invariant.told c.in_ok-next.ensures.told

pub returns-then-left-clause-kept : goal.returns-then-left-clause-kept
returns-then-left-clause-kept g c = λ begun k. c.leave_if_stalled.ensures.kept begun (c.loop.invariant.kept begun k)
