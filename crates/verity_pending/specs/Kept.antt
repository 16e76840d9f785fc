-- What an edit keeps of an image and of its hash tree.
use Rattle.std.specs.Prelude.{◌≡◌, ℕ, suc, ◌<◌, false, [], length, slice_index_or}
use Rattle.verity_digest.specs.Tree.{Hashing, per_block}
use Rattle.verity_digest.specs.Shape.{level_len}
use Rattle.verity_digest.specs.Rows.{block_at}
use Rattle.verity_pending.specs.Edits.{Edits}
use Rattle.verity_pending.specs.Touched.{is_touched}

-- a block that isn't changed is the committed image's
abbrev pub KeepsUnchanged : Edits → Type 0
KeepsUnchanged e = (n : ℕ) → n < length e.working → e.changed n ≡ false
    → (n < length e.committed) × (slice_index_or e.working n [] ≡ slice_index_or e.committed n [])

-- a hash block that isn't touched is the one in the committed image's tree. The levels may go on above the root
abbrev pub KeepsUntouched : Hashing → Edits → Type 0
KeepsUntouched h e = (l i : ℕ) → i < level_len (per_block h) (length e.working) l → is_touched (per_block h) e l i ≡ false
    → (i < level_len (per_block h) (length e.committed) l) × (block_at h e.working (suc l) i ≡ block_at h e.committed (suc l) i)
