use Rattle.verity_disks.specs.Tearing.{resized, stepped}
use Rattle.verity_disks.proofs.file_log.FileLog.after_resize.Given as goal

abbrev pub ghost-after_step : goal.ghost-after_step
ghost-after_step a = stepped (resized a._at) a._log.now.kept
