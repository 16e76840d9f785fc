use Rattle.std.proofs.Common.{◌≡◌, ◌-◌, ◌<◌, ◌≤◌, length, slice_index}
use Rattle.std.specs.Prelude.{Contains}
use Rattle.verity_slice.specs.declared.run.Run.{Run}
use Rattle.cli_format.specs.Asked.{Tells}
use Rattle.cli_format.proofs.asked.runs_in.Given as goal

abbrev pub invariant-loop-from : goal.invariant-loop-from
invariant-loop-from l =
    record {
      told : (run : Run) → Contains l.runs.items run → Tells l.text run;
      begins : 0 < l.from → l.from ≤ length l.text → slice_index l.text (l.from - 1) ≡ 10;
    }

abbrev pub decreases-loop-from : goal.decreases-loop-from
decreases-loop-from l = length l.text - l.from
