use Rattle.std.proofs.Common.{◌≡◌, drop, option_map}
use Rattle.verity_store.specs.RawFile.{HasLength}
use Rattle.verity_journal.specs.Plan.{changed}
use Rattle.verity_commit.proofs.placing.write_changes.Given as goal

abbrev pub invariant-loop-change : goal.invariant-loop-change
invariant-loop-change g l = (l.changes ≡ l.side.changes) × HasLength (g.F.RawFile.bytes l.file) l.side.len
    × (option_map (changed (drop l.change-index l.changes)) (g.F.RawFile.bytes l.file)
    ≡ option_map (changed l.changes) (g.F.RawFile.bytes l.fn.file))
