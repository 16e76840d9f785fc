-- Which files and devices can hold a volume, and which two are one.
use Rattle.std.specs.Prelude.{ℕ, ⊤, Bool, true, false, if◌then◌else◌, Option, Some, None}
use Rattle.os_files.specs.declared.identity.Identity.{Identity}
use Rattle.os_files.specs.declared.identity.Identity.TheVariants.{File, Device}

-- a regular file is known by its file system and its number there, a block device by its device number; nothing else
-- holds blocks
abbrev pub identity_of : Bool → Bool → ℕ → ℕ → ℕ → Option Identity
identity_of is_file is_device dev ino rdev =
    if is_file then Some (File dev ino)
    else if is_device then Some (Device rdev)
    else None

-- one that is known as a regular file
abbrev pub is_known_file : Option Identity → Bool
is_known_file (Some (File dev ino)) = true
is_known_file _ = false

-- a block device
abbrev pub IsDevice : Identity → Type 0
IsDevice (Device number) = ⊤
IsDevice (File dev ino) = ⊥
