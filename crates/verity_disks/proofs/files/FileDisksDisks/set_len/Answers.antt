use Rattle.verity_disks.specs.Tearing.{resized}
use Rattle.verity_disks.proofs.Parts.{stretched_whole}
use Rattle.verity_disks.proofs.Tears.{step_crash, step_seen}
use Rattle.verity_disks.proofs.files.FileDisksDisks.set_len.Goals as goal

pub returns-then-resize-clause-resized : goal.returns-then-resize-clause-resized
returns-then-resize-clause-resized g c = step_seen c.args.device (resized c.args.len) c.args.self.now.files _ c.resize.ensures

pub returns-then-resize-clause-crash : goal.returns-then-resize-clause-crash
returns-then-resize-clause-crash g c = step_crash c.args.device (resized c.args.len) c.args.self.now.files _ c.resize.ensures
    (stretched_whole c.args.len _)

pub returns-clause-crash : goal.returns-clause-crash
returns-clause-crash g c = step_crash c.args.device (resized c.args.len) c.args.self.now.files _ c.resize.ensures
    (stretched_whole c.args.len _)
