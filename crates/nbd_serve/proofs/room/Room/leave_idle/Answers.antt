use Rattle.std.proofs.Common.{◌∙◌, refl}
use Rattle.nbd_serve.proofs.Servings.{goes_on, goes_same}
use Rattle.nbd_serve.proofs.Tellings.{tells_none, tells_then}
use Rattle.nbd_serve.proofs.room.Room.leave_idle.Goals as goal

pub loop-preserved : goal.loop-preserved
loop-preserved g c = record {
  goes_on = goes_on g.E.Export.later g.met.E.Export.later_on _ _ _ c.loop.invariant.goes_on c.part_if_silent.ensures.goes_on;
  sessions = c.part_if_silent.ensures.sessions ∙ c.loop.invariant.sessions;
  told = tells_then _ _ _ _ _ _ c.loop.invariant.told c.in_ok-at.ensures.told;
  kept = λ begun k. c.part_if_silent.ensures.kept begun (c.loop.invariant.kept begun k);
}

pub loop-init : goal.loop-init
loop-init g c = record {
  goes_on = goes_same g.E.Export.later g.met.E.Export.later_same c.args.hub.now;
  sessions = refl;
  told = tells_none _ _;
  kept = λ begun k. k;
}

pub returns-in_default-clause-told : goal.returns-in_default-clause-told
returns-in_default-clause-told g c = tells_none _ _

pub returns-in_default-2-clause-told : goal.returns-in_default-2-clause-told
returns-in_default-2-clause-told g c = tells_none _ _

pub returns-in_err-at-clause-kept : goal.returns-in_err-at-clause-kept
returns-in_err-at-clause-kept g c = λ begun k. c.part_if_silent.ensures.kept begun (c.loop.invariant.kept begun k)
