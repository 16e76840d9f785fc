use Rattle.std.proofs.Common.{sym}
use Rattle.verity_store.proofs.BlockLemmas.{length-cut}
use Rattle.verity_store.proofs.memory.MemStoreBlockStore.len.Goals as goal

pub returns : goal.returns
returns g c = let s = c.args.self.now in sym (length-cut s.size s.blocks s.bytes.items)
