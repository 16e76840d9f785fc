-- What a store holds of what was opened.
use Rattle.std.specs.Prelude.{◌≡◌, ◌*◌, ◌/◌, ◌<◌, ℕ, min, true, false, ⊤}
use Rattle.std.specs.declared.fs.File.{File}
use Rattle.verity_store.specs.declared.raw_file.RawFile.{Ghosts}
use Rattle.os_files.specs.VolumeFiles.{IsPart, LiesIn}
use Rattle.os_host.specs.declared.opening.Opened.{Opened}
use Rattle.os_files.specs.declared.part.Part.{Part}
use Rattle.os_files.specs.declared.part.Part.TheVariants.{All, First, AtMost, New}
use Rattle.os_files.specs.declared.volume_file.VolumeFile.{VolumeFile}

-- a store of such blocks lies in this part of a file or a device of the system
abbrev pub LiesAsPart : Opened → Part → (size : ℕ) → {g : Ghosts File} → VolumeFile File g → Type 0
LiesAsPart opened All size file = LiesIn opened.identity opened.file false opened.len opened.len file
LiesAsPart opened (First blocks) size file = IsPart opened.file opened.len (blocks * size) file
LiesAsPart opened (AtMost blocks) size file =
    LiesIn opened.identity opened.file false opened.len (min blocks (opened.len / size) * size) file
LiesAsPart opened New size file = LiesIn opened.identity opened.file true opened.len (opened.len / size * size) file
