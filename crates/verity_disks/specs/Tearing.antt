-- Three devices in memory that tear: what is on each, what was done since its last sync, and what a stop may leave.
use Rattle.std.specs.Prelude.{◌≡◌, ◌⊎◌, ℕ, ◌≤◌, Bool, true, false, List, [], ◌∷◌, ◌++◌, length}
use Rattle.verity_store.specs.RawFile.{overwritten, with_length}
use Rattle.verity_disks.specs.Disks.{Contents, Torn, Stretched}
use Rattle.verity_disks.specs.declared.disks.Device.{Device}
use Rattle.verity_disks.specs.declared.disks.Device.TheVariants.{Data, Hash, Journal}

-- what was done and isn't synced: a change of length to `at`, or these bytes written at `at`
pub record Step : Type 0 where
  pub resizes : Bool
  pub at : ℕ
  pub bytes : List ℕ

-- a write
abbrev pub written : ℕ → List ℕ → Step
written at bytes = record { resizes = false; at = at; bytes = bytes }

-- a change of length
abbrev pub resized : ℕ → Step
resized len = record { resizes = true; at = len; bytes = [] }

-- the bytes that are on a device, and what was done since, the first step first
pub record Kept : Type 0 where
  pub durable : List ℕ
  pub log : List Step

-- three devices
pub record Three : Type 0 where
  pub on_data : Kept
  pub on_hash : Kept
  pub on_journal : Kept

abbrev pub applied_by : Bool → ℕ → List ℕ → List ℕ → List ℕ
applied_by true at new bytes = with_length at bytes
applied_by false at new bytes = overwritten at new bytes

-- the bytes after a step
abbrev pub applied : Step → List ℕ → List ℕ
applied step bytes = applied_by step.resizes step.at step.bytes bytes

abbrev pub InPartBy : Bool → ℕ → List ℕ → List ℕ → List ℕ → Type 0
InPartBy true at new old left = Stretched at old left
InPartBy false at new old left = Torn at (length new) old left

-- the bytes after a step that a stop cuts short
abbrev pub InPart : Step → List ℕ → List ℕ → Type 0
InPart step old left = InPartBy step.resizes step.at step.bytes old left

abbrev pub replay : List ℕ → List Step → List ℕ
replay bytes [] = bytes
replay bytes (step ∷ log) = replay (applied step bytes) log

-- what is read of a device: every step is done
abbrev pub read_of : Kept → List ℕ
read_of kept = replay kept.durable kept.log

-- each step in part
abbrev pub InParts : List ℕ → List Step → List ℕ → Type 0
InParts bytes [] left = left ≡ bytes
InParts bytes (step ∷ log) left = (mid : List ℕ) × InPart step bytes mid × InParts mid log left

-- what a stop may leave of a device: what is read, or each step in part
abbrev pub MayLeave : Kept → List ℕ → Type 0
MayLeave kept left = (left ≡ read_of kept) ⊎ InParts kept.durable kept.log left

-- one of three
abbrev pub kept_of : Three → Device → Kept
kept_of three Data = three.on_data
kept_of three Hash = three.on_hash
kept_of three Journal = three.on_journal

-- another in its place
abbrev pub with_kept : Device → Kept → Three → Three
with_kept Data kept three = record three { on_data = kept }
with_kept Hash kept three = record three { on_hash = kept }
with_kept Journal kept three = record three { on_journal = kept }

-- one step more on a device
abbrev pub stepped : Step → Kept → Kept
stepped step kept = record { durable = kept.durable; log = kept.log ++ step ∷ [] }

-- all of it on the device
abbrev pub kept_whole : Kept → Kept
kept_whole kept = record { durable = read_of kept; log = [] }

-- what is read of three devices
abbrev pub all_read : Three → Contents
all_read three device = read_of (kept_of three device)

-- what a stop may leave of three devices: of each what it may leave, in every combination
abbrev pub AllMayLeave : Three → Contents → Type 0
AllMayLeave three contents = (device : Device) → MayLeave (kept_of three device) (contents device)

-- what a stop might have left at one of these moments, of which the last stands first, from number t on
abbrev pub MightHaveLeft : ℕ → List Three → Contents → Type 0
MightHaveLeft t [] contents = ⊥
MightHaveLeft t (three ∷ earlier) contents = ((t ≤ length earlier) × AllMayLeave three contents) ⊎ MightHaveLeft t earlier contents
