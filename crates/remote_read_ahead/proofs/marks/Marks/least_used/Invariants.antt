use Rattle.std.proofs.Common.{◌<◌}
use Rattle.remote_read_ahead.proofs.marks.Marks.least_used.Given as goal

abbrev pub invariant-marks : goal.invariant-marks
invariant-marks l = l.least < 8
