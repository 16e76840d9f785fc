use Rattle.std.proofs.Common.{◌/◌, arith}
use Rattle.std.proofs.lemmas.Grind.{common_steps}
use Rattle.verity_store.proofs.BlockLemmas.{concat-cut, length-cut}
use Rattle.verity_store.proofs.memory.MemStore.new.Goals as goal

pub returns-clause-content : goal.returns-clause-content
returns-clause-content g c = concat-cut c.args.size (c.len-2.result / c.args.size) c.args.bytes.items
    (grind (arith, common_steps, c.args.bytes.ok.0))

pub returns-clause-len : goal.returns-clause-len
returns-clause-len g c = let cut_to = length-cut c.args.size (c.len-2.result / c.args.size) c.args.bytes.items in
    rw cut_to (grind (arith, common_steps, c.args.bytes.ok.0))
