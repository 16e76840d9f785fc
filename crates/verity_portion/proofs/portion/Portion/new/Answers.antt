use Rattle.std.proofs.Common.{sym, subst}
use Rattle.verity_portion.specs.Portion.{Portioned, IsPortion}
use Rattle.verity_portion.proofs.PortionLemmas.{portion_new}
use Rattle.verity_portion.proofs.portion.Portion.new.Goals as goal

pub invariant_of-result : goal.invariant_of-result
invariant_of-result g c =
    subst (λ (p : Portioned g.row.S.Denot). IsPortion {S = g.row.S.Denot} g.S.BlockStore p) (λ i. record {
      store = c.args.store;
      runs = c.args.runs.items;
      given = sym c.new.ensures i;
      asked = sym c.new-2.ensures i;
      past = sym c.past_of-past.ensures i;
    }) (portion_new g.S.BlockStore c.args.store c.args.runs.items)
