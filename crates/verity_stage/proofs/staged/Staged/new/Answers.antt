use Rattle.std.proofs.Common.{sym, ap, ◌∙◌}
use Rattle.verity_stage.specs.Stage.{staged}
use Rattle.verity_stage.proofs.StageLemmas.{staged_nothing}
use Rattle.verity_stage.proofs.staged.Staged.new.Goals as goal

pub returns-clause-content : goal.returns-clause-content
returns-clause-content g c =
    let content = g.S.BlockStore.content c.args.store in
    ap (staged content) c.new.ensures ∙ staged_nothing content c.block_size-size.result c.len-blocks.result (sym c.len-blocks.ensures)
