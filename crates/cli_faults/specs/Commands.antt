-- What each command does to a volume's files.
use Rattle.std.specs.Prelude.{Bool, true, false}
use Rattle.verity_store.specs.declared.fault.Which.{Which}
use Rattle.verity_store.specs.declared.fault.Which.TheVariants as which
use Rattle.cli_faults.specs.declared.command.Command.{Command}
use Rattle.cli_faults.specs.declared.command.Command.TheVariants.{Format, Slice, Dump, Edit, Verify, Serve, Talk, Recover, Update, Pull}
use Rattle.cli_faults.specs.declared.command.Lock.{Lock}
use Rattle.cli_faults.specs.declared.command.Lock.TheVariants as lock

-- `format` and its slices write the hash device, `edit`, `update`, `recover` and `pull` both; the others only read
abbrev pub writes : Command → Which → Bool
writes Format which.Data = false
writes Format which.Hash = true
writes Slice which.Data = false
writes Slice which.Hash = true
writes Dump w = false
writes Edit w = true
writes Verify w = false
writes Serve w = false
writes Talk w = false
writes Recover w = true
writes Update w = true
writes Pull w = true

-- one that writes works alone, but for slices, which work beside one another; those that read a volume shut out whoever writes but a
-- slice; `dump` takes what stands there
abbrev pub lock_of : Command → Lock
lock_of Format = lock.Alone
lock_of Slice = lock.Shared
lock_of Dump = lock.Open
lock_of Edit = lock.Alone
lock_of Verify = lock.Shared
lock_of Serve = lock.Shared
lock_of Talk = lock.Shared
lock_of Recover = lock.Alone
lock_of Update = lock.Alone
lock_of Pull = lock.Alone
