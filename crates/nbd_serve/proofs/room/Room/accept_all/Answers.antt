use Rattle.std.proofs.Common.{◌∙◌, refl}
use Rattle.nbd_serve.proofs.Servings.{goes_on, goes_same}
use Rattle.nbd_serve.proofs.Tellings.{tells_none, tells_then}
use Rattle.nbd_serve.proofs.room.Room.accept_all.Goals as goal

pub loop-preserved : goal.loop-preserved
loop-preserved g c = record {
  goes_on = goes_on g.E.Export.later g.met.E.Export.later_on _ _ _ c.loop.invariant.goes_on c.accept_one.ensures.goes_on;
  sessions = c.accept_one.ensures.sessions ∙ c.loop.invariant.sessions;
  told = tells_then _ _ _ _ _ _ c.loop.invariant.told c.in_ok-accept_one.ensures.told;
  kept = λ begun k. c.accept_one.ensures.kept begun (c.loop.invariant.kept begun k);
}

pub returns-then-not-branch-clause-told : goal.returns-then-not-branch-clause-told
returns-then-not-branch-clause-told g c = tells_then _ _ _ _ _ _ c.loop.invariant.told c.in_ok-accept_one.ensures.told

pub loop-init : goal.loop-init
loop-init g c = record {
  goes_on = goes_same g.E.Export.later g.met.E.Export.later_same c.args.hub.now;
  sessions = refl;
  told = tells_none _ _;
  kept = λ begun k. k;
}

pub returns-in_err-accept_one-clause-kept : goal.returns-in_err-accept_one-clause-kept
returns-in_err-accept_one-clause-kept g c = λ begun k. c.accept_one.ensures.kept begun (c.loop.invariant.kept begun k)

pub returns-then-not-branch-clause-kept : goal.returns-then-not-branch-clause-kept
returns-then-not-branch-clause-kept g c = λ begun k. c.accept_one.ensures.kept begun (c.loop.invariant.kept begun k)
