use Rattle.std.proofs.Common.{arith, sym, ap, ◌∙◌, subst}
use Rattle.verity_chain.specs.Table.{Table}
use Rattle.verity_chain.specs.Stores.{hash_given}
use Rattle.verity_report.specs.Stores.{given_in}
use Rattle.verity_check.specs.Cache.{IsChained, AreKept}
use Rattle.verity_check.specs.Verifier.{Verifying}
use Rattle.verity_check.proofs.VerifierLemmas.{left, reading, verifier_after}
use Rattle.verity_check.proofs.verifier.Verifier.warm.Goals as goal

pub invariant_of-self : goal.invariant_of-self
invariant_of-self g c =
    let D = g.D.BlockStore in
    let H = g.H.BlockStore in
    let e = c.warm_blocks.ensures in
    let h = c.warm_blocks.new.hash_store in
    let v : Verifying g.row.D.Denot g.row.H.Denot = record {
      table = c.self.inside.tree;
      data_store = c.self.inside.data_store;
      hash_store = c.self.inside.hash_store;
      data_mark = c.self.inside.data_mark.steps;
      hash_mark = c.self.inside.hash_mark.steps;
      since = c.self.inside.since;
    } in
    let w = left D H v c.warm_blocks.new.tree c.warm_blocks.new.data_store c.warm_blocks.new.hash_store in
    let keeps = reading D H v c.warm_blocks.new.tree c.warm_blocks.new.data_store c.warm_blocks.new.hash_store e.same e.data_keeps
    e.hash_keeps in
    record {
      verifier = verifier_after D H v w keeps c.self.invariant.verifier;
      data_room = c.self.invariant.data_room ∙ ap (λ (t : Table). t.data_block_size) (sym e.same);
      run_room = omega (arith, c.self.invariant.run_room, ap (λ (t : Table). t.data_block_size) e.same);
      hash_room = c.self.invariant.hash_room ∙ ap (λ (t : Table). t.hash_block_size) (sym e.same);
      chained = subst (λ t. IsChained t (hash_given H t c.self.inside.since.of_hash h) c.warm_blocks.new.cache) (sym e.same) e.chained;
      kept = subst (λ t. AreKept t (given_in D H t c.self.inside.since c.warm_blocks.new.data_store h) c.warm_blocks.new.data_cache)
          (sym e.same) e.kept;
    }
