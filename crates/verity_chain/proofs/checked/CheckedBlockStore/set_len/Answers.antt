use Rattle.std.proofs.Common.{ℕ, replicate, subst}
use Rattle.verity_profile.specs.Profile.{zero_block}
use Rattle.verity_store.specs.Blocks.{ResizedToward}
use Rattle.verity_store.proofs.BlockLemmas.{resized_not}
use Rattle.verity_chain.specs.Checked.{Checking}
use Rattle.verity_chain.proofs.checked.CheckedBlockStore.set_len.Goals as goal

pub returns-clause-partly : goal.returns-clause-partly
returns-clause-partly g c =
    let i = c.self.inside in
    let size : ℕ = i.tree.hash_block_size in
    let P : Checking g.row.H.Denot → Type 0 = λ e. ResizedToward e.table.hash_block_size c.args.blocks
    (replicate e.blocks (zero_block e.table.hash_block_size)) (replicate i.blocks (zero_block size)) in
    subst P c.self.view_is (resized_not size c.args.blocks (replicate i.blocks (zero_block size)))
