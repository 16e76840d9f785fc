-- What a fault of the folder is here.
use Rattle.os_line_file.specs.declared.folder.FolderFault.{FolderFault}
use Rattle.os_line_file.specs.declared.folder.FolderFault.TheVariants.{Device, NoMemory}
use Rattle.verity_line_file.specs.declared.fault.LineFileFault.{LineFileFault}
use Rattle.verity_line_file.specs.declared.fault.LineFileFault.TheVariants as fault

abbrev pub fault_of : FolderFault → LineFileFault
fault_of Device = fault.Folder
fault_of NoMemory = fault.NoMemory
