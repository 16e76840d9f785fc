use Rattle.std.proofs.Common.{◌-◌, ◌≤◌, replicate}
use Rattle.verity_store.specs.RawFile.{Writes}
use Rattle.verity_store.proofs.window.fill_zeros.Given as goal

abbrev pub invariant-loop-at : goal.invariant-loop-at
invariant-loop-at g l =
    record {
      low : l.from ≤ l.at;
      high : l.at ≤ l.to;
      filled : Writes (g.F.RawFile.bytes l.initial.file) (g.F.RawFile.bytes l.file) l.from (replicate (l.at - l.from) 0);
    }

abbrev pub decreases-loop-at : goal.decreases-loop-at
decreases-loop-at g l = l.to - l.at
