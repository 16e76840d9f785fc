use Rattle.std.proofs.Common.{◌<◌, ◌∙◌, refl, arith}
use Rattle.verity_store.proofs.BlockLemmas.{place, length-cut, get_or-cut}
use Rattle.verity_store.proofs.memory.MemStoreBlockStore.read.Goals as goal

pub overflow_mul-n : goal.overflow_mul-n
overflow_mul-n g c = let s = c.args.self.now in
    omega (
      arith,
      place s.size s.blocks c.args.n s.bytes.items (omega (arith, s.whole, s.bytes.ok.0)) c.requires.within,
      c.deref.ensures.len,
      c.deref.type_inv,
      s.bytes.ok.0,
    )

pub get-requires : goal.get-requires
get-requires g c = let s = c.args.self.now in
    omega (
      arith,
      place s.size s.blocks c.args.n s.bytes.items (omega (arith, s.whole, s.bytes.ok.0)) c.requires.within,
      c.deref.ensures.len,
      c.requires.sized,
      s.bytes.ok.0,
    )

pub returns-clause-right : goal.returns-clause-right
returns-clause-right g c = λ _. let s = c.args.self.now in
    let within : c.args.n < s.blocks = omega (arith, length-cut s.size s.blocks s.bytes.items, c.requires.within) in
    get_or-cut s.size s.blocks s.bytes.items c.args.n within ∙ rw (c.get.ensures, c.deref.ensures.value, c.requires.sized) refl
