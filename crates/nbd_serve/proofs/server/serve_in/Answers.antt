use Rattle.std.proofs.Common.{◌∙◌, refl, sym, subst, not, Bool}
use Rattle.nbd_serve.specs.Lines.{IsServing}
use Rattle.nbd_serve.proofs.Servings.{goes_same, goes_on}
use Rattle.nbd_serve.proofs.Keeping.{kept_same}
use Rattle.nbd_serve.proofs.Tellings.{tells_all, tells_none, tells_then, tells_to}
use Rattle.nbd_serve.proofs.server.serve_in.Goals as goal

pub loop-init : goal.loop-init
loop-init g c = record {
  goes_on = goes_same g.E.Export.later g.met.E.Export.later_same c.args.hub.now;
  sessions = refl;
  told = tells_to _ _ _ _ _ c.requires (tells_none _ _);
  kept = λ begun k. k;
}

pub returns-then-is_empty-clause-serves : goal.returns-then-is_empty-clause-serves
returns-then-is_empty-clause-serves g c = let same = c.serve_once.ensures.sessions ∙ c.loop.invariant.sessions in
    subst (λ (faulty : Bool). IsServing (g.W.Write.contents c.args.output.now) (g.W.Write.contents c.serve_once.new.output)
    c.args.room.now.sessions (not faulty)) (sym c.is_faulty.ensures)
    (tells_all _ _ _ _ _ _ _ (c.is_empty.ensures.ended c.if-is_empty.true ∙ same)
    (c.is_empty.ensures.accepted c.if-is_empty.true ∙ same) (c.is_empty.ensures.numbers c.if-is_empty.true)
    (tells_then _ _ _ _ _ _ c.loop.invariant.told c.in_ok-at_once.ensures.told))

pub loop-preserved : goal.loop-preserved
loop-preserved g c = record {
  goes_on = goes_on g.E.Export.later g.met.E.Export.later_on _ _ _ c.loop.invariant.goes_on c.serve_once.ensures.goes_on;
  sessions = c.look.ensures.sessions ∙ c.serve_once.ensures.sessions ∙ c.loop.invariant.sessions;
  told = tells_to _ _ _ _ _ c.look.ensures.stands (tells_then _ _ _ _ _ _ c.loop.invariant.told c.in_ok-at_once.ensures.told);
  kept = λ begun k. kept_same _ _ _ begun _ _ _ _ _ _ _ c.look.ensures.clients c.look.ensures.leaving refl
      (c.serve_once.ensures.kept begun (c.loop.invariant.kept begun k));
}

pub returns-in_err-look-clause-goes_on : goal.returns-in_err-look-clause-goes_on
returns-in_err-look-clause-goes_on g c = goes_on g.E.Export.later g.met.E.Export.later_on _ _ _ c.loop.invariant.goes_on
    c.serve_once.ensures.goes_on

pub returns-in_err-at_once-clause-kept : goal.returns-in_err-at_once-clause-kept
returns-in_err-at_once-clause-kept g c = λ begun k. c.serve_once.ensures.kept begun (c.loop.invariant.kept begun k)

pub returns-then-is_empty-clause-kept : goal.returns-then-is_empty-clause-kept
returns-then-is_empty-clause-kept g c = λ begun k. c.serve_once.ensures.kept begun (c.loop.invariant.kept begun k)

pub returns-in_err-look-clause-kept : goal.returns-in_err-look-clause-kept
returns-in_err-look-clause-kept g c = λ begun k. kept_same _ _ _ begun _ _ _ _ _ _ _ c.look.ensures.clients c.look.ensures.leaving refl
    (c.serve_once.ensures.kept begun (c.loop.invariant.kept begun k))
