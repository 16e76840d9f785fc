use Rattle.std.proofs.Common.{List, ℕ, subst}
use Rattle.verity_store.specs.Blocks.{ResizedToward}
use Rattle.verity_store.proofs.BlockLemmas.{resized_not}
use Rattle.verity_moved.specs.Moved.{moved_content, moved_from}
use Rattle.verity_moved.proofs.moved.MovedBlockStore.set_len.Goals as goal

pub returns-clause-partly : goal.returns-clause-partly
returns-clause-partly g c =
    let stores = g.S.BlockStore in
    let inside = c.self.inside in
    let now : List (List ℕ) = moved_content (stores.size inside.store)
    (moved_from inside.store inside.here inside.there inside.count) (stores.content inside.store) in
    subst (λ m. ResizedToward (stores.size m.store) c.args._blocks (moved_content (stores.size m.store) m (stores.content m.store)) now)
    c.self.view_is (resized_not (stores.size inside.store) c.args._blocks now)
