use Rattle.std.proofs.Common.{arith}
use Rattle.verity_store.proofs.BlockLemmas.{AllSized-cut}
use Rattle.verity_store.proofs.memory.MemStoreBlockStore.block_size.Goals as goal

pub returns-clause-blocks : goal.returns-clause-blocks
returns-clause-blocks g c = let s = c.args.self.now in AllSized-cut _ _ _ (omega (arith, s.whole, s.bytes.ok.0))
