-- How many bytes there are of what was opened.
use Rattle.std.specs.Prelude.{◌≡◌, ◌≢◌, ◌%◌, ℕ}
use Rattle.std.specs.declared.fs.File.{File}
use Rattle.os_files.specs.declared.identity.Identity.{Identity}
use Rattle.os_files.specs.declared.identity.Identity.TheVariants as identity
use Rattle.os_host.specs.declared.paths.Paths.{Ghosts}

-- of a file as many as the system says by now, of a device so many
abbrev pub IsLenOf : {P : Type 0} → Ghosts P → P → Identity → File → (of_device len : ℕ) → Type 0
IsLenOf facts p (identity.File dev ino) file of_device len = facts.has_len p file len
IsLenOf facts p (identity.Device rdev) file of_device len = len ≡ of_device

-- and that is no whole number of blocks of this size
abbrev pub IsRagged : {P : Type 0} → Ghosts P → P → Identity → File → (of_device size : ℕ) → Type 0
IsRagged facts p identity file of_device size = (len : ℕ) × IsLenOf facts p identity file of_device len × (len % size ≢ 0)
