use Rattle.verity_disks.specs.Tearing.{written, stepped}
use Rattle.verity_disks.proofs.file_log.FileLog.after_write.Given as goal

abbrev pub ghost-after_step : goal.ghost-after_step
ghost-after_step a = stepped (written a._at a._bytes.now) a._log.now.kept
