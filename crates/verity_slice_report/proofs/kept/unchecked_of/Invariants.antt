use Rattle.std.proofs.Common.{◌≡◌, take}
use Rattle.verity_slice_report.specs.Sliced.{unchecked_below}
use Rattle.verity_slice_report.proofs.kept.unchecked_of.Given as goal

abbrev pub invariant-loop-fault : goal.invariant-loop-fault
invariant-loop-fault l = l.unchecked ≡ unchecked_below l.tree l.run (take l.fault-index l.faults)
