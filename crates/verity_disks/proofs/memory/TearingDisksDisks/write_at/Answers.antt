use Rattle.std.proofs.Common.{rules, ◌≡◌, length}
use Rattle.verity_disks.specs.Disks.{Torn}
use Rattle.verity_disks.specs.Tearing.{written, kept_of, with_kept, stepped}
use Rattle.verity_disks.proofs.Parts.{torn_written}
use Rattle.verity_disks.proofs.Moments.{torn_self}
use Rattle.verity_disks.proofs.Tears.{step_crash, step_seen, still_crash}
use Rattle.verity_disks.proofs.memory.TearingDisksDisks.write_at.Goals as goal

pub returns-then-is_ok-clause-written : goal.returns-then-is_ok-clause-written
returns-then-is_ok-clause-written g c =
    let old = c.args.self.now.devices in
    let device = c.args.device in
    let is : c.write.new.self ≡ with_kept device (stepped (written c.args.at c.args.bytes.now) (kept_of old device)) old = search rules in
    step_seen device (written c.args.at c.args.bytes.now) old _ is

pub returns-then-is_ok-clause-crash : goal.returns-then-is_ok-clause-crash
returns-then-is_ok-clause-crash g c =
    let old = c.args.self.now.devices in
    let device = c.args.device in
    let is : c.write.new.self ≡ with_kept device (stepped (written c.args.at c.args.bytes.now) (kept_of old device)) old = search rules in
    step_crash device (written c.args.at c.args.bytes.now) old _ is (torn_written c.args.at c.args.bytes.now _ c.requires)

pub returns-clause-crash : goal.returns-clause-crash
returns-clause-crash g c =
    let same : c.else-goes_on.self.devices ≡ c.args.self.now.devices = search rules in
    still_crash c.args.device (Torn c.args.at (length c.args.bytes.now)) c.args.self.now.devices _ same
    (torn_self c.args.at (length c.args.bytes.now))
