-- What an error of the system is taken for.
use Rattle.std.specs.Prelude.{◌≡◌, Bool, true, false, if◌then◌else◌, ⊤}
use Rattle.std.specs.IoError.{error_kind}
use Rattle.std.specs.declared.io.Error.{Error}
use Rattle.std.specs.declared.io.ErrorKind.{ErrorKind}
use Rattle.std.specs.declared.io.ErrorKind.TheVariants.{OutOfMemory}
use Rattle.verity_store.specs.declared.fault.StoreFault.{StoreFault}
use Rattle.verity_store.specs.declared.fault.StoreFault.TheVariants as store
use Rattle.verity_store.specs.declared.fault.Which.{Which}
use Rattle.cli_faults.specs.declared.failure.Failure.{Failure}
use Rattle.cli_faults.specs.declared.failure.Failure.TheVariants as failure
use Rattle.cli_faults.specs.declared.fault.Fault.{Fault}
use Rattle.cli_faults.specs.declared.fault.Fault.TheVariants.{Store, InUse}

-- the one kind that is want of memory
abbrev pub is_memory : ErrorKind → Bool
is_memory OutOfMemory = true
is_memory _ = false

-- of a store S3 for want of memory, S1 for all else
abbrev pub store_fault_of : Error → StoreFault
store_fault_of error = if is_memory (error_kind error) then store.NoMemory else store.Device

-- of the output want of memory, or that it can't be written
abbrev pub failure_of_error : Error → Failure
failure_of_error error = if is_memory (error_kind error) then failure.NoMemory else failure.Output

-- a script can't be read: S1, where the system refuses, or want of memory
abbrev pub IsOfScript : Type 0 → Failure → Type 0
IsOfScript refuses failure.NoMemory = ⊤
IsOfScript refuses (failure.Refused (Store store.Device)) = refuses
IsOfScript refuses _ = ⊥

-- S1, where the system refuses, and S3 are what it answers; S2 and S4 are for the store to say
abbrev pub IsOfSystem : Type 0 → StoreFault → Type 0
IsOfSystem refuses store.Device = refuses
IsOfSystem refuses store.NoMemory = ⊤
IsOfSystem refuses _ = ⊥

-- and S5, of this store, where its lock is asked for too, which another's shuts out
abbrev pub IsOfLock : (refuses shut_out : Type 0) → Which → Fault → Type 0
IsOfLock refuses shut_out which (InUse other) = (other ≡ which) × shut_out
IsOfLock refuses shut_out which (Store fault) = IsOfSystem refuses fault
IsOfLock refuses shut_out which _ = ⊥

-- where it is S1, for this reason
abbrev pub IsS1For : Type 0 → Failure → Type 0
IsS1For reason e = e ≡ failure.Refused (Store store.Device) → reason
