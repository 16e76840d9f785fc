-- Lists of blocks: cut from bytes, resized, and changed at one block.
use Rattle.std.specs.Prelude.{◌≡◌, ◌≢◌, ℕ, zero, suc, ◌-◌, ◌≤◌, min, max}
use Rattle.std.specs.Prelude.{List, [], ◌∷◌, ◌++◌, length, take, drop, replicate, slice_index_or}
use Rattle.verity_profile.specs.Profile.{zero_block}

-- the first `count` blocks, with zero blocks where there are too few
abbrev pub resized : ℕ → ℕ → List (List ℕ) → List (List ℕ)
resized size count blocks = take count blocks ++ replicate (count - length blocks) (zero_block size)

-- resized to some length from its own to `count`
abbrev pub ResizedToward : ℕ → ℕ → List (List ℕ) → List (List ℕ) → Type 0
ResizedToward size count old new = (m : ℕ) × (min (length old) count ≤ m) × (m ≤ max (length old) count) × (new ≡ resized size m old)

-- at most block `n` has changed
abbrev pub ChangesAt : ℕ → List (List ℕ) → List (List ℕ) → Type 0
ChangesAt n old new = (length new ≡ length old) × ((k : ℕ) → k ≢ n → slice_index_or new k [] ≡ slice_index_or old k [])

-- the first `count` blocks of a run of bytes
abbrev pub cut : ℕ → ℕ → List ℕ → List (List ℕ)
cut size zero bytes = []
cut size (suc count) bytes = take size bytes ∷ cut size count (drop size bytes)
