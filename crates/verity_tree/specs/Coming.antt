-- The open blocks of a tree of which some digests are still to be made: those of the blocks that wait below.
use Rattle.std.specs.Prelude.{◌≡◌, ℕ, zero, suc, ◌<◌, List, [], ◌∷◌, ◌++◌, length, map, slice_index_or}
use Rattle.verity_digest.specs.Tree.{Hashing}
use Rattle.verity_geometry.specs.Geometry.{Shape}
use Rattle.verity_tree.specs.Open.{Open}
use Rattle.verity_tree.specs.Waits.{Waits}

abbrev pub none_wait : Waits
none_wait = record { size = 0; room = 0; blocks = [] }

-- no block of this size waits, and there is room for so many
abbrev pub with_room : ℕ → ℕ → Waits
with_room size room = record { size = size; room = room; blocks = [] }

-- the blocks of a level that wait
abbrev pub waits_at : List Waits → ℕ → Waits
waits_at waiting level = slice_index_or waiting level none_wait

-- on each level hash blocks of this volume wait, of which one has room at least
abbrev pub AreWaiting : Shape → List Waits → Type 0
AreWaiting s waiting = (l : ℕ) → l < length waiting → ((waits_at waiting l).size ≡ s.hash_size) × (0 < (waits_at waiting l).room)

-- the digests that come to a level: those of the blocks that wait on the level below
abbrev pub coming : Hashing → List Waits → ℕ → List (List ℕ)
coming h waiting zero = []
coming h waiting (suc l) = map h.digest (waits_at waiting l).blocks

-- an open block with the digests that come to it
abbrev pub with_coming : Open → List (List ℕ) → Open
with_coming o digests = record o { digests = o.digests ++ digests }

-- the open blocks from a level on, each with the digests that come to it
abbrev pub opens_from : Hashing → List Waits → ℕ → List Open → List Open
opens_from h waiting level [] = []
opens_from h waiting level (o ∷ others) = with_coming o (coming h waiting level) ∷ opens_from h waiting (suc level) others
