use Rattle.std.proofs.Common.{◌≡◌, ◌++◌, map}
use Rattle.verity_stage.specs.Stage.{FitPlaces, at_place}
use Rattle.verity_stage.proofs.stage.changes_of.Given as goal

abbrev pub invariant-loop-n : goal.invariant-loop-n
invariant-loop-n g l = record {
  fit : FitPlaces l.size l.n-iterator;
  added : l.changes.items ++ map (at_place l.size) l.n-iterator ≡ map (at_place l.size) l.written.entries;
}
