-- What the system says of a lock that was asked for.
use Rattle.std.specs.Prelude.{if◌then◌else◌, Result, Ok, Err}
use Rattle.std.specs.IoError.{error_kind}
use Rattle.std.specs.declared.fs.TryLockError.{TryLockError}
use Rattle.std.specs.declared.fs.TryLockError.TheVariants as lock
use Rattle.cli_faults.specs.Errors.{is_memory}
use Rattle.os_host.specs.declared.locks.Told.{Told}
use Rattle.os_host.specs.declared.locks.Told.TheVariants as told

-- of a lock that was asked for
abbrev pub told_of : {T : Type 0} → Result T TryLockError → Told
told_of (Ok x) = told.Locked
told_of (Err lock.WouldBlock) = told.InUse
told_of (Err (lock.Error error)) = if is_memory (error_kind error) then told.NoMemory else told.Failed
