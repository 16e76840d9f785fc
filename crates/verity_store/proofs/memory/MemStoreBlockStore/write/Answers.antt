use Rattle.std.proofs.Common.{◌≡◌, set, arith}
use Rattle.verity_store.specs.Blocks.{cut}
use Rattle.verity_store.proofs.BlockLemmas.{place, AllSized-cut, cut-write, set-others}
use Rattle.verity_store.proofs.memory.MemStoreBlockStore.write.Goals as goal
use Rattle.verity_store.proofs.memory.MemStoreBlockStore.write.Goals.{After-put}
use Rattle.verity_store.proofs.memory.MemStoreBlockStore.write.Given.{Over}

pub overflow_mul-at : goal.overflow_mul-at
overflow_mul-at g c = let s = c.args.self.now in
    omega (
      arith,
      place s.size s.blocks c.args.n s.bytes.items (omega (arith, s.whole, s.bytes.ok.0)) c.requires.within,
      s.bytes.small,
      s.bytes.ok.0,
    )

pub put-requires : goal.put-requires
put-requires g c = let s = c.args.self.now in
    omega (
      arith,
      place s.size s.blocks c.args.n s.bytes.items (omega (arith, s.whole, s.bytes.ok.0)) c.requires.within,
      c.requires.sized,
      s.bytes.ok.0,
    )

written : (g : Over) (c : After-put g) → cut c.args.self.now.size c.args.self.now.blocks c.put.new.bytes.items ≡ set
    (cut c.args.self.now.size c.args.self.now.blocks c.args.self.now.bytes.items) c.args.n c.args.block.now
written g c = let s = c.args.self.now in cut-write s.size s.blocks c.args.n s.bytes.items c.args.block.now c.put.new.bytes.items
    c.requires.sized (omega (arith, s.whole, s.bytes.ok.0)) c.requires.within c.put.ensures.items

pub returns-clause-written : goal.returns-clause-written
returns-clause-written g c = λ _. written g (goal.at.returns-clause-written g c).After-put

pub returns-clause-others : goal.returns-clause-others
returns-clause-others g c = rw (written g (goal.at.returns-clause-others g c).After-put) (set-others _ _ _)

pub returns-clause-blocks : goal.returns-clause-blocks
returns-clause-blocks g c = λ _. let s = c.args.self.now in
    AllSized-cut s.size s.blocks c.put.new.bytes.items (omega (arith, s.whole, c.put.ensures.len, c.put.new.bytes.ok.0))
