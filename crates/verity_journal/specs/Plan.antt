-- What a commit is to change, and what it makes of a device's bytes.
use Rattle.std.specs.Prelude.{◌≡◌, ◌⊎◌, ℕ, ◌+◌, ◌^◌, ◌<◌, ◌≤◌, List, [], ◌∷◌, length, get_or, Bool, true, false, ⊤}
use Rattle.verity_store.specs.RawFile.{overwritten, with_length}
use Rattle.verity_disks.specs.Disks.{Torn}

-- the changes of one device: so many bytes are kept of it, it gets this length, and then these bytes at these places
pub record Side : Type 0 where
  pub keep : ℕ
  pub len : ℕ
  pub changes : List (ℕ × List ℕ)

-- the changes of a commit, and bytes that name the volume
pub record Plan : Type 0 where
  pub names : List ℕ
  pub on_data : Side
  pub on_hash : Side

-- the bytes after these changes, one after the other
abbrev pub changed : List (ℕ × List ℕ) → List ℕ → List ℕ
changed [] bytes = bytes
changed (change ∷ changes) bytes = changed changes (overwritten change.0 change.1 bytes)

-- what a side makes of a device
abbrev pub made : Side → List ℕ → List ℕ
made side bytes = changed side.changes (with_length side.len (with_length side.keep bytes))

-- a change lies below this length
abbrev pub IsBelow : ℕ → ℕ × List ℕ → Type 0
IsBelow len change = change.0 + length change.1 ≤ len

-- each change lies below this length
abbrev pub Fit : ℕ → List (ℕ × List ℕ) → Type 0
Fit len [] = ⊤
Fit len (change ∷ changes) = (change.0 + length change.1 ≤ len) × Fit len changes

-- a side whose changes lie below its length
pub record IsSide (side : Side) : Type 0 where
  pub kept : side.keep ≤ side.len
  pub fit : Fit side.len side.changes

-- its numbers have eight bytes
pub record IsSmall (side : Side) : Type 0 where
  pub len : side.len < 2 ^ 64
  pub count : length side.changes < 2 ^ 64

-- one of the changes is of byte i
abbrev pub Covers : List (ℕ × List ℕ) → ℕ → Type 0
Covers [] i = ⊥
Covers (change ∷ changes) i = ((change.0 ≤ i) × (i < change.0 + length change.1)) ⊎ Covers changes i

-- of the bytes that a side keeps, only some that it changes anyway are others
pub record Amid (side : Side) (old new : List ℕ) : Type 0 where
  pub kept : side.keep ≤ length old → side.keep ≤ length new
  pub same : side.keep ≤ length old → (i : ℕ) → i < side.keep → Covers side.changes i ⊎ (get_or new i 0 ≡ get_or old i 0)

-- what a stop may leave after these writes, in this order, none of them synced
abbrev pub Unsynced : List (ℕ × List ℕ) → List ℕ → List ℕ → Type 0
Unsynced [] old new = new ≡ old
Unsynced (change ∷ changes) old new = (mid : List ℕ) × Torn change.0 (length change.1) old mid × Unsynced changes mid new

-- those of the writes for which there is a true
abbrev pub chosen : List Bool → List (ℕ × List ℕ) → List (ℕ × List ℕ)
chosen [] changes = []
chosen (b ∷ bs) [] = []
chosen (true ∷ bs) (change ∷ changes) = change ∷ chosen bs changes
chosen (false ∷ bs) (change ∷ changes) = chosen bs changes
