use Rattle.verity_disks.proofs.file_device.FileDevice.sized.Given as goal

abbrev pub ghost-begun : goal.ghost-begun
ghost-begun g a = g.kept
