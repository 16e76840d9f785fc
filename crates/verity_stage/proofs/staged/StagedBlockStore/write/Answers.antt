use Rattle.std.proofs.Common.{arith}
use Rattle.verity_stage.proofs.StageLemmas.{length-staged}
use Rattle.verity_stage.proofs.staged.StagedBlockStore.write.Goals as goal

pub write-requires-clause-within : goal.write-requires-clause-within
write-requires-clause-within g c = let s = c.args.self.now in
    omega (arith, length-staged (g.S.BlockStore.content s.store) s.stage, c.requires.within)
