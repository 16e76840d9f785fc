-- What a fault of a line's file is for a command.
use Rattle.std.specs.Prelude.{◌-◌, ◌==◌, if◌then◌else◌}
use Rattle.os_line_file.specs.declared.folder.FolderFault.{FolderFault}
use Rattle.os_line_file.specs.declared.folder.FolderFault.TheVariants as folder
use Rattle.cli_faults.specs.Faults.{failure_of}
use Rattle.cli_faults.specs.declared.failure.Failure.{Failure}
use Rattle.cli_faults.specs.declared.failure.Failure.TheVariants as failure
use Rattle.cli_faults.specs.declared.fault.Fault.TheVariants as fault
use Rattle.verity_geometry.specs.Geometry.{Shape, levels_of}
use Rattle.verity_line_file.specs.declared.fault.LineFileFault.{LineFileFault}
use Rattle.verity_line_file.specs.declared.fault.LineFileFault.TheVariants as why
use Rattle.verity_pending.specs.declared.fault.EditFault.{EditFault}
use Rattle.verity_pending.specs.declared.fault.EditFault.TheVariants as edit
use Rattle.verity_store.specs.declared.fault.StoreFault.TheVariants as store

-- S1
abbrev pub refused_folder : Failure
refused_folder = failure.Refused (fault.Store store.Device)

-- S1 where the folder refused, else want of memory
abbrev pub folder_failure : FolderFault → Failure
folder_failure folder.Device = refused_folder
folder_failure folder.NoMemory = failure.NoMemory

-- the fault of a volume whose top block is another than a line's: E14 with that block; E13 of one data block, above which there is none
abbrev pub top_fault : Shape → EditFault
top_fault s = if s.blocks == 1 then edit.Line else edit.Untrusted (levels_of s - 1) 0

-- FILE holds no line; the volume has other values; its top block is another; the folder refused; want of memory
abbrev pub line_failure : LineFileFault → EditFault → Failure
line_failure (why.Line f) top = failure_of (fault.Table f)
line_failure why.Values top = failure_of (fault.Edit edit.Line)
line_failure why.Top top = failure_of (fault.Edit top)
line_failure why.Folder top = refused_folder
line_failure why.NoMemory top = failure.NoMemory
