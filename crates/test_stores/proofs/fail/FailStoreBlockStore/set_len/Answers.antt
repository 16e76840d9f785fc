use Rattle.std.proofs.Common.{◌≡◌, ℕ, List, sym, subst, arith, rules}
use Rattle.std.proofs.lemmas.Grind.{common_steps}
use Rattle.verity_store.specs.Blocks.{ResizedToward}
use Rattle.verity_store.proofs.BlockLemmas.{resized_not}
use Rattle.test_stores.proofs.fail.FailStoreBlockStore.set_len.Goals as goal

pub returns-then-fails_call-clause-partly : goal.returns-then-fails_call-clause-partly
returns-then-fails_call-clause-partly g c =
    let old = c.args.self.now in
    let size = g.S.BlockStore.size old.store in
    let was : List (List ℕ) = g.S.BlockStore.content old.store in
    let is : List (List ℕ) = g.S.BlockStore.content c.fails_call.new.self.store in
    let same : is ≡ was = first_of (search rules, grind (arith, common_steps)) in
    subst (λ (x : List (List ℕ)). ResizedToward size c.args.blocks was x) (sym same) (resized_not size c.args.blocks was)
