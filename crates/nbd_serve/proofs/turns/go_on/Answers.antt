use Rattle.std.proofs.Common.{◌≡◌, refl, ◌∙◌, inl, inr}
use Rattle.nbd_hub.specs.declared.fault.ServeFault.TheVariants as fault
use Rattle.nbd_relay.proofs.Many.{runs_more}
use Rattle.nbd_serve.specs.Pending.{IsWithin}
use Rattle.nbd_serve.specs.declared.turns.Came.{Came}
use Rattle.nbd_serve.specs.declared.turns.Came.TheVariants as came
use Rattle.nbd_serve.proofs.Counting.{runs_none}
use Rattle.nbd_serve.proofs.Servings.{goes_same, goes_on}
use Rattle.nbd_serve.proofs.turns.go_on.Goals as goal

apart : (x : Came) → x ≡ came.On → x ≡ came.Failed fault.Starved → ⊥
apart x a b = cc

pub loop-init : goal.loop-init
loop-init g c = record {
  count = refl;
  goes_on = goes_same g.E.Export.later g.met.E.Export.later_same c.args.hub.now;
  budget = λ p. inl p;
  hungry = λ e. absurd (let z : ⊥ = cc in z);
  serves = λ h logs x v. runs_none g.S.Stream.remaining g.S.Stream.received g.S.Stream.contents (g.E.Export.facts c.args.hub.now.1)
      c.args.hub.now.0 h c.args.clients.now logs x v;
}

pub loop-preserved : goal.loop-preserved
loop-preserved g c =
    let f = g.E.Export.facts in
    let i = c.loop.invariant in
    let t = c.take_turn-came in
    record {
      count = t.ensures.count ∙ i.count;
      goes_on = goes_on g.E.Export.later g.met.E.Export.later_on c.args.hub.now c.loop.hub t.new.hub i.goes_on t.ensures.goes_on;
      budget = λ p.
          let q : IsWithin c.args.budget.limit c.args.budget.share c.loop.clients = elim (i.budget p) [
            | inl a ↦ a
            | inr b ↦ absurd (apart c.loop.came c.in-On.is b)
          ] in t.ensures.budget q;
      hungry = t.ensures.hungry;
      serves = λ h logs x v.
          runs_more g.S.Stream.remaining g.S.Stream.received g.S.Stream.contents (f c.loop.hub.1) (f t.new.hub.1) c.loop.hub.0 t.new.hub.0 h
          c.args.clients.now c.loop.clients t.new.clients logs (i.serves h logs x v) t.ensures.serves;
    }
