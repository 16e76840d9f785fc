use Rattle.std.proofs.Common.{arith}
use Rattle.verity_stage.proofs.StageLemmas.{length-staged}
use Rattle.verity_stage.proofs.staged.StagedBlockStore.read.Goals as goal

pub read_staged-requires-clause-within : goal.read_staged-requires-clause-within
read_staged-requires-clause-within g c = let s = c.args.self.now in
    omega (arith, length-staged (g.S.BlockStore.content s.store) s.stage, c.requires.within)
