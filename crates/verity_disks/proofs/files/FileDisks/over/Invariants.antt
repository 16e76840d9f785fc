use Rattle.std.proofs.Common.{[], replicate}
use Rattle.verity_disks.proofs.files.FileDisks.over.Given as goal

abbrev pub ghost-sized : goal.ghost-sized
ghost-sized g a = record { durable = replicate a.len 0; log = [] }

abbrev pub ghost-holding : goal.ghost-holding
ghost-holding g a = record { durable = a.bytes.now; log = [] }
