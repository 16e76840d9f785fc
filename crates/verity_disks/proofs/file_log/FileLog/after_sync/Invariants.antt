use Rattle.verity_disks.specs.Tearing.{kept_whole}
use Rattle.verity_disks.proofs.file_log.FileLog.after_sync.Given as goal

abbrev pub ghost-after_step : goal.ghost-after_step
ghost-after_step a = kept_whole a._log.now.kept
