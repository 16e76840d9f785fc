use Rattle.std.proofs.Common.{ℕ, ◌≡◌, ◌*◌, ◌-◌, ◌∙◌, ◌++◌, length, take, replicate, ap, arith}
use Rattle.verity_store.specs.Blocks.{cut, resized}
use Rattle.verity_store.proofs.BlockLemmas.{AllSized-cut, cut-resize, resized_toward, resized_not}
use Rattle.verity_store.proofs.memory.MemStoreBlockStore.set_len.Goals as goal
use Rattle.verity_store.proofs.memory.MemStoreBlockStore.set_len.Goals.{In-Ok}
use Rattle.verity_store.proofs.memory.MemStoreBlockStore.set_len.Given.{Over}

done : (g : Over) (c : In-Ok g) → cut c.args.self.now.size c.args.blocks c.resize.new.self.items ≡ resized c.args.self.now.size
    c.args.blocks (cut c.args.self.now.size c.args.self.now.blocks c.args.self.now.bytes.items)
done g c = let s = c.args.self.now in let whole : length s.bytes.items ≡ s.blocks * s.size = omega (arith, s.whole, s.bytes.ok.0) in
    ap (cut s.size c.args.blocks) (c.in-Ok.ensures.items
    ∙ ap (λ (n : ℕ). take (c.args.blocks * s.size) s.bytes.items ++ replicate (c.args.blocks * s.size - n) 0) s.bytes.ok.0)
    ∙ cut-resize s.size s.blocks c.args.blocks s.bytes.items whole

pub returns-in-Ok-clause-done : goal.returns-in-Ok-clause-done
returns-in-Ok-clause-done g c = done g (goal.at.returns-in-Ok-clause-done g c).In-Ok

pub returns-in-Ok-clause-partly : goal.returns-in-Ok-clause-partly
returns-in-Ok-clause-partly g c = rw (done g (goal.at.returns-in-Ok-clause-partly g c).In-Ok) (resized_toward _ _ _)

pub returns-in-Ok-clause-blocks : goal.returns-in-Ok-clause-blocks
returns-in-Ok-clause-blocks g c = λ _. let s = c.args.self.now in
    AllSized-cut s.size c.args.blocks c.resize.new.self.items (omega (arith, c.in-Ok.ensures.len, c.resize.new.self.ok.0))

pub returns-in-Err-clause-partly : goal.returns-in-Err-clause-partly
returns-in-Err-clause-partly g c = rw c.in-Err.ensures.items (resized_not _ _ _)

pub returns-in-Err-clause-blocks : goal.returns-in-Err-clause-blocks
returns-in-Err-clause-blocks g c = λ _. let s = c.args.self.now in
    AllSized-cut s.size s.blocks c.resize.new.self.items (omega (arith, s.whole, c.in-Err.ensures.len, c.resize.new.self.ok.0))
