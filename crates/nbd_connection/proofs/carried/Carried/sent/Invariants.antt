use Rattle.std.proofs.Common.{◌++◌, take}
use Rattle.nbd_connection.proofs.carried.Carried.sent.Given as goal

abbrev pub ghost-carried_after : goal.ghost-carried_after
ghost-carried_after a = record { read = a._carried.now.log.read; wrote = a._carried.now.log.wrote ++ take a._count a._bytes.now }
