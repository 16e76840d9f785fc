use Rattle.std.proofs.Common.{◌∙◌, sym, arith}
use Rattle.verity_store.proofs.BlockLemmas.{concat-cut}
use Rattle.verity_store.proofs.memory.MemStore.bytes.Goals as goal

pub returns : goal.returns
returns g c = let s = c.args.self.now in
    c.deref.ensures.value ∙ sym (concat-cut s.size s.blocks s.bytes.items (omega (arith, s.whole, s.bytes.ok.0)))
