-- The bytes of a file, where they are known.
use Rattle.std.specs.Prelude.{◌≡◌, ℕ, ◌+◌, ◌-◌, ⊤, ◌⊎◌, Bool, true, false, Option, None, Some}
use Rattle.std.specs.Prelude.{List, [], ◌∷◌, ◌++◌, length, take, drop, replicate}
use Rattle.verity_profile.specs.Profile.{zero_block}
use Rattle.verity_store.specs.Blocks.{cut}

-- the bytes, with some of them written over
abbrev pub overwritten : ℕ → List ℕ → List ℕ → List ℕ
overwritten at written bytes = take at bytes ++ (written ++ drop (at + length written) bytes)

-- cut, or grown by zeros
abbrev pub with_length : ℕ → List ℕ → List ℕ
with_length n bytes = take n bytes ++ replicate (n - length bytes) 0

abbrev pub is_known : Option (List ℕ) → Bool
is_known None = false
is_known (Some bytes) = true

-- how many bytes there are, or `n` where they are not known
abbrev pub known_len : Option (List ℕ) → ℕ → ℕ
known_len None n = n
known_len (Some bytes) n = length bytes

-- known bytes have this length
abbrev pub HasLength : Option (List ℕ) → ℕ → Type 0
HasLength known n = known_len known n ≡ n

-- what was read at a place are the known bytes there
abbrev pub Reads : Option (List ℕ) → ℕ → List ℕ → Type 0
Reads None at given = ⊤
Reads (Some bytes) at given = given ≡ take (length given) (drop at bytes)

-- known bytes are written over, and unknown ones stay unknown
abbrev pub Writes : Option (List ℕ) → Option (List ℕ) → ℕ → List ℕ → Type 0
Writes None new at written = new ≡ None
Writes (Some bytes) new at written = new ≡ Some (overwritten at written bytes)

-- some bytes, `n` of them, are written there
abbrev pub MayWrite : Option (List ℕ) → Option (List ℕ) → ℕ → ℕ → Type 0
MayWrite old new at n = (written : List ℕ) × (length written ≡ n) × Writes old new at written

-- known bytes are cut or grown to `n`, and unknown ones stay unknown
abbrev pub SetsLength : Option (List ℕ) → Option (List ℕ) → ℕ → Type 0
SetsLength None new n = new ≡ None
SetsLength (Some bytes) new n = new ≡ Some (with_length n bytes)

-- the bytes stay, or are cut or grown to `n`
abbrev pub MaySetLength : Option (List ℕ) → Option (List ℕ) → ℕ → Type 0
MaySetLength old new n = (new ≡ old) ⊎ SetsLength old new n

-- the blocks of a file; of unknown bytes they are said to be zero blocks, and no store over them tells
abbrev pub file_blocks : ℕ → ℕ → Option (List ℕ) → List (List ℕ)
file_blocks size blocks None = replicate blocks (zero_block size)
file_blocks size blocks (Some bytes) = cut size blocks bytes

-- what a store is bound to by its file: whether calls on it may be refused
abbrev pub bound_by_file : Bool → List (ℕ × List ℕ)
bound_by_file true = (1, []) ∷ []
bound_by_file false = []
