use Rattle.std.proofs.Common.{arith}
use Rattle.verity_pull.proofs.LayLemmas.{end_few}
use Rattle.verity_pull.proofs.layout.make_room.Goals as goal

pub reserve-requires-2 : goal.reserve-requires-2
reserve-requires-2 g c = omega (arith, c.end-end.ensures, end_few c.args.tree.now c.requires)
