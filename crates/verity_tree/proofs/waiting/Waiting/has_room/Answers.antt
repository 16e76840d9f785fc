use Rattle.std.proofs.Common.{arith}
use Rattle.std.proofs.lemmas.Bool.{ltb-true, lt-ltb}
use Rattle.verity_tree.proofs.SlotLemmas.{length-slots}
use Rattle.verity_tree.proofs.waiting.Waiting.has_room.Goals as goal

pub returns : goal.returns
returns g c =
    let w = c.self.inside in
    let count = length-slots w.size w.count w.bytes.items in
    rw (← c.self.view_is) (
      (λ less. let below = ltb-true w.count w.room less in omega (arith, count, below)),
      (λ below. lt-ltb w.count w.room (omega (arith, count, below))),
    )
