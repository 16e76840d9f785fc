use Rattle.std.proofs.Common.{None, sym, subst}
use Rattle.verity_chain.specs.Checked.{Checking, IsChecking}
use Rattle.verity_chain.proofs.CheckedLemmas.{checking_unread}
use Rattle.verity_chain.proofs.checked.Checked.new.Goals as goal

pub invariant_of-result : goal.invariant_of-result
invariant_of-result g c =
    subst (λ (x : Checking g.row.H.Denot). IsChecking {H = g.row.H.Denot} g.H.BlockStore x) (λ i. record {
      table = c.args.tree;
      hash_store = c.args.hash_store;
      notes = sym c.new.ensures.items i;
      given = sym c.new-2.ensures i;
      hashed = sym c.new-3.ensures i;
      asked = sym c.new-4.ensures i;
      refused = sym c.new-5.ensures i;
      changes = sym c.new-6.ensures i;
      refusal = None;
      blocks = sym c.end-blocks.ensures i;
      since = sym c.end_of-since.ensures i;
      origin = sym c.origin_of-origin.ensures i;
    }) (checking_unread g.H.BlockStore c.args.tree c.args.hash_store c.requires)
