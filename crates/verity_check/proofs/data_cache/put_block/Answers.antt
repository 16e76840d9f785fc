use Rattle.std.proofs.Common.{nat_eq}
use Rattle.verity_check.proofs.CacheLemmas.{same_number, adds_from_put}
use Rattle.verity_check.proofs.data_cache.put_block.Goals as goal

pub returns-in-Ok : goal.returns-in-Ok
returns-in-Ok g c = adds_from_put nat_eq same_number c.args.cache.now c.put.new.self c.args.n c.in-Ok.copy c.args.block.now
    c.in-Ok.ensures.items c.put.result c.put.ensures.entries c.put.ensures.err
