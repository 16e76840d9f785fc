-- What a fault of a pull is refused with.
use Rattle.verity_store.specs.declared.fault.Which.TheVariants as which
use Rattle.verity_build.specs.declared.fault.BuildFault.TheVariants as build
use Rattle.verity_check.specs.declared.fault.CheckFault.TheVariants as check
use Rattle.cli_faults.specs.declared.failure.Failure.{Failure}
use Rattle.cli_faults.specs.declared.failure.Failure.TheVariants as failure
use Rattle.cli_faults.specs.declared.fault.Fault.TheVariants as fault
use Rattle.verity_pull.specs.declared.fault.PullFault.{PullFault}
use Rattle.verity_pull.specs.declared.fault.PullFault.TheVariants as pull
use Rattle.verity_pull.specs.declared.fault.Role.TheVariants as role

-- V1 where a store isn't one of the line, V2 and the place, V3 of the source, U2 of a local store; or want of memory
abbrev pub failure_by : PullFault → Failure
failure_by (pull.Store role.LocalData) = failure.Refused (fault.Build (build.Store which.Data))
failure_by (pull.Store role.LocalHash) = failure.Refused (fault.Build (build.Store which.Hash))
failure_by (pull.Store role.SourceData) = failure.Refused (fault.Check (check.Store which.Data))
failure_by (pull.Store role.SourceHash) = failure.Refused (fault.Check (check.Store which.Hash))
failure_by (pull.Wrong place) = failure.Refused (fault.Check (check.Mismatch place))
failure_by (pull.Unsuited role) = failure.Refused (fault.Check check.Lengths)
failure_by pull.NoMemory = failure.NoMemory
