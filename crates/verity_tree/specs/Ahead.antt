-- Digests of data blocks that were made ahead of their turn.
use Rattle.std.specs.Prelude.{◌≡◌, ℕ, ◌+◌, ◌-◌, ◌*◌, ◌<◌, ◌≤◌, min, max, List, [], length, slice_index_or, true}
use Rattle.verity_digest.specs.Hash.{Salted, size_of, salted_digest}
use Rattle.verity_store.specs.Given.{GaveSince}
use Rattle.verity_store.specs.declared.store.BlockStore as store

-- of these digests those from `taken` to before `held` are those of the store's blocks from n on
pub record AreAhead {S : Type 0} (facts : store.Ghosts S) (salted : Salted) (n : ℕ) (s : S) (digests : List (List ℕ))
    (taken held : ℕ) : Type 0 where
  pub order : taken ≤ held
  pub within : n + (held - taken) ≤ length (facts.content s)
  pub sized : (j : ℕ) → j < held - taken → length (slice_index_or digests (taken + j) []) ≡ size_of salted.algorithm
  pub right : facts.tells s ≡ true → (j : ℕ) → j < held - taken
      → slice_index_or digests (taken + j) [] ≡ salted_digest salted (slice_index_or (facts.content s) (n + j) [])

-- the digest is that of a block that the store gave for this number, behind the first `mark` of its log
pub record IsOfGiven {S : Type 0} (facts : store.Ghosts S) (salted : Salted) (mark n : ℕ) (s : S) (digest : List ℕ) : Type 0 where
  pub block : List ℕ
  pub is : digest ≡ salted_digest salted block
  pub sized : length block ≡ facts.size s
  pub gave : GaveSince (facts.given s) mark n block

-- of these digests those from `taken` to before `held` are so, for the numbers from n on
abbrev pub AreOfGiven : {S : Type 0} → store.Ghosts S → Salted → (mark n : ℕ) → S → List (List ℕ) → (taken held : ℕ) → Type 0
AreOfGiven facts salted mark n s digests taken held = (j : ℕ) → j < held - taken
    → IsOfGiven facts salted mark (n + j) s (slice_index_or digests (taken + j) [])

-- the bytes of the data blocks of this size that are read at a time: of as many as 64 KiB hold or of eight, whichever is more, but of no
-- more than a hash block has digests for, 128 or 512 KiB hold; and of one in any case
abbrev pub most_at_a_time : ℕ → ℕ → ℕ
most_at_a_time size per_block = max (min (min (size * min per_block 128) (max (size * 8) 65536)) 524288) size
