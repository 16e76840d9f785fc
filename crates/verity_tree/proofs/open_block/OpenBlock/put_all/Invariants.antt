use Rattle.std.proofs.Common.{◌≡◌, ◌++◌, take}
use Rattle.verity_tree.proofs.open_block.OpenBlock.put_all.Given as goal

abbrev pub invariant-each : goal.invariant-each
invariant-each g l = l.self ≡ record l.fn.self { digests = l.fn.self.digests ++ take l.j l.digests }
