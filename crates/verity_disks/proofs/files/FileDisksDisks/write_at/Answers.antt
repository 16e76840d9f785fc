use Rattle.verity_disks.specs.Tearing.{written}
use Rattle.verity_disks.proofs.Parts.{torn_written}
use Rattle.verity_disks.proofs.Tears.{step_crash, step_seen, still_crash}
use Rattle.verity_disks.proofs.Moments.{torn_self}
use Rattle.verity_disks.specs.Disks.{Torn}
use Rattle.std.proofs.Common.{length, refl}
use Rattle.verity_disks.proofs.files.FileDisksDisks.write_at.Goals as goal

pub returns-then-write-clause-written : goal.returns-then-write-clause-written
returns-then-write-clause-written g c = step_seen c.args.device (written c.args.at c.args.bytes.now) c.args.self.now.files _ c.write.ensures

pub returns-then-write-clause-crash : goal.returns-then-write-clause-crash
returns-then-write-clause-crash g c = step_crash c.args.device (written c.args.at c.args.bytes.now) c.args.self.now.files _
    c.write.ensures (torn_written c.args.at c.args.bytes.now _ c.requires)

pub returns-clause-crash : goal.returns-clause-crash
returns-clause-crash g c = step_crash c.args.device (written c.args.at c.args.bytes.now) c.args.self.now.files _ c.write.ensures
    (torn_written c.args.at c.args.bytes.now _ c.requires)

pub returns-then-not-is_small-clause-crash : goal.returns-then-not-is_small-clause-crash
returns-then-not-is_small-clause-crash g c =
    still_crash c.args.device (Torn c.args.at (length c.args.bytes.now)) c.args.self.now.files c.args.self.now.files refl
    (torn_self c.args.at (length c.args.bytes.now))
