-- Hash blocks that were read under a table line, each noted with its number in the hash store.
use Rattle.std.specs.Prelude.{ℕ, suc, ◌/◌, ◌<◌, ◌≡◌, ◌≢◌, ◌⊎◌, Bool, true, List, [], length, map, Contains, slice_index_or}
use Rattle.std.specs.List.{AllPairs}
use Rattle.verity_store.specs.declared.store.BlockStore as store
use Rattle.verity_chain.specs.Table.{Table, branching, height, row_len, hash_place}
use Rattle.verity_chain.specs.Chain.{Given, given_by, EndsChain, WrongAt}
use Rattle.verity_chain.specs.Right.{own}
use Rattle.verity_chain.specs.Stores.{Gave}
use Rattle.verity_chain.specs.declared.notes.ReadRefused.{ReadRefused}
use Rattle.verity_chain.specs.declared.notes.ReadRefused.TheVariants as refused

pub record Note : Type 0 where
  pub number : ℕ
  pub block : List ℕ

-- what the notes say was given at the places of the tree
abbrev pub noted : Table → List Note → Given
noted t notes = given_by t (λ n block. ⊥) (λ n block. Contains notes (record { number = n; block = block }))

-- the note is of the block at this index of the level
pub record IsNoteOf (t : Table) (l i : ℕ) (note : Note) : Type 0 where
  pub level : l < height t
  pub index : i < row_len t (suc l)
  pub number : note.number ≡ hash_place t l i
  pub sized : length note.block ≡ t.hash_block_size

-- each note is of a block of the tree, and ends a chain of noted blocks from the root
abbrev pub AreChecked : Table → List Note → Type 0
AreChecked t notes = (note : Note) → Contains notes note
    → (l : ℕ) × (i : ℕ) × IsNoteOf t l i note × EndsChain t (noted t notes) (suc l) i note.block

-- each note has the image's own block at its place
abbrev pub AreOwn : Table → List (List ℕ) → List Note → Type 0
AreOwn t image notes = (note : Note) → Contains notes note
    → (l : ℕ) × (i : ℕ) × IsNoteOf t l i note × (note.block ≡ own t image (suc l) i)

-- note c, and that it is of the block of this number
abbrev pub note_at : List Note → ℕ → Note
note_at notes c = slice_index_or notes c (record { number = 0; block = [] })

abbrev pub IsNoteAt : List Note → ℕ → ℕ → Type 0
IsNoteAt notes c n = (c < length notes) × ((note_at notes c).number ≡ n)

-- behind the first `mark` of what it gave, the hash store gave what is noted
abbrev pub WereGiven : {H : Type 0} → store.Ghosts H → ℕ → H → List Note → Type 0
WereGiven hash mark h notes = (note : Note) → Contains notes note → Gave hash mark h note.number note.block

-- the numbers of the notes
abbrev pub numbers : List Note → List ℕ
numbers notes = map (λ note. note.number) notes

-- no block is noted twice
abbrev pub AreApart : List Note → Type 0
AreApart notes = AllPairs (λ n m. n ≢ m) (numbers notes)

-- the number is that of a place of the tree in this set of levels and indexes
pub record IsAmong (t : Table) (set : ℕ → ℕ → Bool) (n : ℕ) : Type 0 where
  pub level : ℕ
  pub index : ℕ
  pub is_level : level < height t
  pub is_index : index < row_len t (suc level)
  pub place : hash_place t level index ≡ n
  pub among : set level index ≡ true

-- with each place the set has the one above it
abbrev pub IsUpward : Table → (ℕ → ℕ → Bool) → Type 0
IsUpward t set = (l i : ℕ) → set l i ≡ true → set (suc l) (i / branching t) ≡ true

-- if a place of the tree has this number, it is in the set
abbrev pub AsksWithin : Table → (ℕ → ℕ → Bool) → ℕ → Type 0
AsksWithin t set n = (l i : ℕ) → l < height t → i < row_len t (suc l) → hash_place t l i ≡ n → set l i ≡ true

-- what is noted anew is of places in the set
abbrev pub NotesWithin : Table → (ℕ → ℕ → Bool) → List Note → List Note → Type 0
NotesWithin t set old new = (n : ℕ) → Contains (numbers new) n → Contains (numbers old) n ⊎ IsAmong t set n

-- every note stays
abbrev pub KeepsNotes : List Note → List Note → Type 0
KeepsNotes old new = (note : Note) → Contains old note → Contains new note

-- why a hash block wasn't read: one was given without the digest that is named, below a chain of given blocks; or the store
-- failed; or memory was refused
abbrev pub ExplainsUnread : Table → Given → Type 0 → ReadRefused → Type 0
ExplainsUnread t given failed (refused.Mismatch level index) =
    (level < height t) × (index < row_len t (suc level)) × WrongAt t given (suc level) index
ExplainsUnread t given failed refused.Store = failed
ExplainsUnread t given failed refused.NoMemory = Unit {0}
