-- What a store lies in, and its bytes, where they are known.
use Rattle.std.specs.Prelude.{◌≡◌, ◌⊎◌, ℕ, ◌-◌, ◌/◌, ◌^◌, ◌<◌, nat_lt, Bool, true, if◌then◌else◌, Option, None, Some, List, []}
use Rattle.verity_store.specs.declared.raw_file.RawFile.{Ghosts}
use Rattle.verity_store.specs.Window.{first_bytes}
use Rattle.os_files.specs.declared.identity.Identity.{Identity}
use Rattle.os_files.specs.declared.identity.Identity.TheVariants.{File, Device}
use Rattle.os_files.specs.declared.volume_file.VolumeFile.{VolumeFile}
use Rattle.os_files.specs.declared.volume_file.VolumeFile.TheVariants.{Regular, Part}

-- a file that is replaced counts as empty
abbrev pub kept_bytes : Option (List ℕ) → Bool → Option (List ℕ)
kept_bytes None is_replaced = None
kept_bytes (Some bytes) is_replaced = Some (if is_replaced then [] else bytes)

-- of a regular file all that it counts for, else the first bytes
abbrev pub volume_bytes : {F : Type 0} {g : Ghosts F} → VolumeFile F g → Option (List ℕ)
volume_bytes {g = g} (Regular r) = kept_bytes (g.bytes r.file) r.is_replaced
volume_bytes {g = g} (Part w) = first_bytes w.len (g.bytes w.file)

-- what was written so far is kept
abbrev pub volume_synced : {F : Type 0} {g : Ghosts F} → VolumeFile F g → Bool
volume_synced {g = g} (Regular r) = g.synced r.file
volume_synced {g = g} (Part w) = g.synced w.file

-- the file refused a call up to this byte, or it is replaced, and has no byte
abbrev pub RegularRefuses : (ℕ → Type 0) → Bool → ℕ → Type 0
RegularRefuses refuses is_replaced n = refuses n ⊎ ((is_replaced ≡ true) × (0 < n))

-- a regular file did, or what has so many bytes
abbrev pub VolumeRefuses : {F : Type 0} {g : Ghosts F} → VolumeFile F g → ℕ → Type 0
VolumeRefuses {g = g} (Regular r) n = RegularRefuses (g.refuses r.file) r.is_replaced n
VolumeRefuses {g = g} (Part w) n = g.refuses w.file n ⊎ (w.len < n)

-- a regular file, as it stands or replaced
abbrev pub IsRegular : {F : Type 0} {g : Ghosts F} → F → Bool → VolumeFile F g → Type 0
IsRegular file is_replaced (Regular r) = (r.file ≡ file) × (r.is_replaced ≡ is_replaced)
IsRegular file is_replaced (Part w) = ⊥

-- the first `len` of all the bytes of a file
abbrev pub IsPart : {F : Type 0} {g : Ghosts F} → F → (all len : ℕ) → VolumeFile F g → Type 0
IsPart file all len (Regular r) = ⊥
IsPart file all len (Part w) = (w.file ≡ file) × (w.room ≡ all) × (w.len ≡ len)

-- a file as it stands or replaced, or the first `len` of all the bytes of a device
abbrev pub LiesIn : {F : Type 0} {g : Ghosts F} → Identity → F → Bool → (all len : ℕ) → VolumeFile F g → Type 0
LiesIn (File dev ino) file is_replaced all len lies = IsRegular file is_replaced lies
LiesIn (Device rdev) file is_replaced all len lies = IsPart file all len lies

-- any number of blocks have room in a file, as many as come before its end in a device
abbrev pub room_in : Identity → (len size : ℕ) → ℕ
room_in (File dev ino) len size = 2 ^ 64 - 1
room_in (Device rdev) len size = if nat_lt 0 size then len / size else 2 ^ 64 - 1
