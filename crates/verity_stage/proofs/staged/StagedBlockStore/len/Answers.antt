use Rattle.std.proofs.Common.{sym, ◌∙◌}
use Rattle.verity_stage.proofs.StageLemmas.{length-staged}
use Rattle.verity_stage.proofs.staged.StagedBlockStore.len.Goals as goal

pub returns : goal.returns
returns g c = let s = c.args.self.now in c.blocks-2.ensures ∙ sym (length-staged (g.S.BlockStore.content s.store) s.stage)
