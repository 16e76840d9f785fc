-- Where a journal stands, and of which volume it is, over a system.
use Rattle.std.specs.Prelude.{◌≡◌, ◌⊎◌, ◌<◌, ℕ, ◌+◌, List, [], ◌∷◌, ◌++◌, length, codes, Option, None, Some, IfSome, MatchOption, unwrap_or}
use Rattle.std.specs.Borrow.{Bor}
use Rattle.std.specs.Int.{w64, to_le_bytes, from_le_bytes}
use Rattle.std.specs.Path.{path_file_name}
use Rattle.os_files.specs.Identities.{IsDevice}
use Rattle.os_files.specs.declared.identity.Identity.{Identity}
use Rattle.os_files.specs.declared.identity.Identity.TheVariants as identity
use Rattle.os_files.specs.declared.system.System.{Ghosts}
use Rattle.os_files.specs.Reached.{BesideAt}
use Rattle.verity_superblock.specs.Reading as superblock
use Rattle.verity_superblock.specs.declared.faults.SuperFault.{SuperFault}

-- no journal is named, and HASH, as a device, has none beside it; or none is asked for
abbrev pub IsWithoutJournal : Option (Bor (List ℕ)) → Identity → Type 0
IsWithoutJournal named device = MatchOption named (IsDevice device) (λ text. text.now ≡ codes "none")

-- the journal's path: the one that is named, or the one beside HASH
abbrev pub IsJournalPath : {S F D J : Type 0} → Ghosts S F D J → S → Option (Bor (List ℕ)) → List ℕ → List ℕ → Type 0
IsJournalPath facts s named hash_path path = MatchOption named (BesideAt facts s hash_path path) (λ text. path ≡ text.now)

-- a regular file's name is the last part of the path of what its path leads to; a device has none
abbrev pub IsName : {S F D J : Type 0} → Ghosts S F D J → S → Identity → List ℕ → List ℕ → Type 0
IsName facts s (identity.File device number) path name = (led : List ℕ) × facts.leads s path led
    × (name ≡ unwrap_or (path_file_name led) led)
IsName facts s (identity.Device number) path name = name ≡ []

-- the names of both files, with a zero byte between
abbrev pub AreNames : {S F D J : Type 0} → Ghosts S F D J → S → Identity → List ℕ → Identity → List ℕ → List ℕ → Type 0
AreNames facts s image data_path device hash_path names = (data_name hash_name : List ℕ) × IsName facts s image data_path data_name
    × IsName facts s device hash_path hash_name × (names ≡ data_name ++ 0 ∷ hash_name)

-- the names that a journal has of a volume: its UUID, the byte offset of its superblock in HASH, of eight bytes, the lowest first, and
-- the names of its files
abbrev pub volume_names : (uuid : List ℕ) → (offset : ℕ) → (files : List ℕ) → List ℕ
volume_names uuid offset files = uuid ++ (to_le_bytes w64 offset ++ files)

-- 512 bytes were read of a hash device at a byte offset
abbrev pub IsReadAt : {S F D J : Type 0} → Ghosts S F D J → S → F → (offset : ℕ) → List ℕ → Type 0
IsReadAt facts s device offset block = facts.reads s device offset block × (length block ≡ 512)

-- the UUID of the superblock of the profile that stands at a byte offset of a hash device; none where none does
abbrev pub IsVolumeAt : {S F D J : Type 0} → Ghosts S F D J → S → F → (offset : ℕ) → Option (List ℕ) → Type 0
IsVolumeAt facts s device offset (Some uuid) = (block : List ℕ) × IsReadAt facts s device offset block × (superblock.uuid block ≡ uuid)
IsVolumeAt facts s device offset None = (facts.len device < offset + 512)
    ⊎ ((block : List ℕ) × IsReadAt facts s device offset block × (fault : SuperFault) × (superblock.refusal block ≡ Some fault))

-- a journal has these names of a volume's files, and of the volume that stands in HASH: where a superblock stands at the offset that it
-- names, that has the UUID that it names
pub record IsOfVolume {S F D J : Type 0} (facts : Ghosts S F D J) (s : S) (device : F) (files names : List ℕ) : Type 0 where
  pub uuid : List ℕ
  pub offset : List ℕ
  pub named : names ≡ uuid ++ (offset ++ files)
  pub sixteen : length uuid ≡ 16
  pub eight : length offset ≡ 8
  pub found : Option (List ℕ)
  pub stands : IsVolumeAt facts s device (from_le_bytes w64 offset) found
  pub own : IfSome found (λ other. other ≡ uuid)
