use Rattle.std.proofs.Common.{◌≡◌, take}
use Rattle.std.specs.List.{filter}
use Rattle.verity_slice_report.specs.Sliced.{is_of}
use Rattle.verity_slice_report.proofs.kept.kept_of.Given as goal

abbrev pub invariant-loop-fault : goal.invariant-loop-fault
invariant-loop-fault l = l.kept.items ≡ filter (is_of l.tree l.run) (take l.fault-index l.faults)
