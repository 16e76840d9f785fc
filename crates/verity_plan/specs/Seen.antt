-- What a store shows of what it holds. The facts of a store of the type S are S.BlockStore.
use Rattle.std.specs.Prelude.{◌≡◌, ◌⊎◌, ℕ, true, List, [], slice_index_or, Contains}
use Rattle.verity_store.specs.declared.store.BlockStore as store

-- each block that the store gave is the one that stands there in these blocks
abbrev pub GaveOnly : {S : Type 0} → store.Ghosts S → S → List (List ℕ) → Type 0
GaveOnly facts s blocks = (n : ℕ) (block : List ℕ) → Contains (facts.given s) (n, block) → slice_index_or blocks n [] ≡ block

-- each block that was given since then was given for such a number
abbrev pub GivesAt : (ℕ → Type 0) → List (ℕ × List ℕ) → List (ℕ × List ℕ) → Type 0
GivesAt at old new = (n : ℕ) (block : List ℕ) → Contains new (n, block) → Contains old (n, block) ⊎ at n

-- the store tells, and these are the blocks that it holds; or it gave none but these
abbrev pub Shows : {S : Type 0} → store.Ghosts S → S → List (List ℕ) → Type 0
Shows facts s blocks = ((facts.tells s ≡ true) × (blocks ≡ facts.content s)) ⊎ GaveOnly facts s blocks
