use Rattle.std.proofs.Common.{◌≡◌, ◌≤◌, length, drop}
use Rattle.verity_disks.specs.Disks.{Contents, put, Reached, LeavesOnly}
use Rattle.verity_journal.specs.Plan.{Amid, changed}
use Rattle.verity_journal.proofs.changing.change.Given as goal

abbrev pub invariant-loop-change : goal.invariant-loop-change
invariant-loop-change g l = record {
  list : l.changes ≡ l.side.changes;
  moments : LeavesOnly g.K.Disks.moment g.K.Disks.left_since l.fn.disks l.disks
      (Reached l.device (Amid l.side) (g.K.Disks.may_leave l.fn.disks));
  crash : (c : Contents) → g.K.Disks.may_leave l.disks c → Reached l.device (Amid l.side) (g.K.Disks.may_leave l.fn.disks) c;
  seen : g.K.Disks.seen l.disks ≡ put l.device (g.K.Disks.seen l.disks l.device) (g.K.Disks.seen l.fn.disks);
  len : length (g.K.Disks.seen l.disks l.device) ≡ l.side.len;
  todo : changed (drop l.change-index l.changes) (g.K.Disks.seen l.disks l.device) ≡ changed l.changes (g.K.Disks.seen l.fn.disks l.device);
  faults : g.K.Disks.faults l.fn.disks ≤ g.K.Disks.faults l.disks;
}
