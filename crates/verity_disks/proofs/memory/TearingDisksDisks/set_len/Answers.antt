use Rattle.std.proofs.Common.{rules, ◌≡◌}
use Rattle.verity_disks.specs.Disks.{Stretched}
use Rattle.verity_disks.specs.Tearing.{resized, kept_of, with_kept, stepped}
use Rattle.verity_disks.proofs.Parts.{stretched_whole}
use Rattle.verity_disks.proofs.Tears.{step_crash, step_seen, still_crash, stretched_self}
use Rattle.verity_disks.proofs.memory.TearingDisksDisks.set_len.Goals as goal

pub returns-then-is_ok-clause-resized : goal.returns-then-is_ok-clause-resized
returns-then-is_ok-clause-resized g c =
    let old = c.args.self.now.devices in
    let device = c.args.device in
    let is : c.resize.new.self ≡ with_kept device (stepped (resized c.args.len) (kept_of old device)) old = search rules in
    step_seen device (resized c.args.len) old _ is

pub returns-then-is_ok-clause-crash : goal.returns-then-is_ok-clause-crash
returns-then-is_ok-clause-crash g c =
    let old = c.args.self.now.devices in
    let device = c.args.device in
    let is : c.resize.new.self ≡ with_kept device (stepped (resized c.args.len) (kept_of old device)) old = search rules in
    step_crash device (resized c.args.len) old _ is (stretched_whole c.args.len _)

pub returns-clause-crash : goal.returns-clause-crash
returns-clause-crash g c =
    let same : c.else-goes_on.self.devices ≡ c.args.self.now.devices = search rules in
    still_crash c.args.device (Stretched c.args.len) c.args.self.now.devices _ same (stretched_self c.args.len)
