use Rattle.std.proofs.Common.{◌∙◌, ap}
use Rattle.verity_store.specs.Blocks.{cut}
use Rattle.verity_store.proofs.BlockLemmas.{cut-zeros}
use Rattle.verity_store.proofs.memory.MemStore.zeroed.Goals as goal

pub returns-clause-content : goal.returns-clause-content
returns-clause-content g c = ap (cut c.args.size c.args.blocks) (c.in-Ok.ensures.items_if_clones_equal (λ _ same. same))
    ∙ cut-zeros c.args.size c.args.blocks
