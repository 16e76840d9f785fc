-- What an update leaves. The facts of a store of the type S are S.BlockStore.
use Rattle.std.specs.Prelude.{◌≡◌, ℕ, ◌<◌, ◌⊎◌, Bool, false, List, [], length, map, slice_index_or}
use Rattle.std.specs.List.{count_by, range_with_len}
use Rattle.verity_digest.specs.Tree.{Hashing, root}
use Rattle.verity_store.specs.declared.store.BlockStore as store
use Rattle.verity_chain.specs.Table.{Table, hashing_of}
use Rattle.verity_chain.specs.Right.{Fits, Clash}
use Rattle.verity_chain.specs.Stores.{Gave, hash_given}

-- both images have the same leaves: block for block the same digests, and as many
abbrev pub IsUpdateOf : Hashing → (new image : List (List ℕ)) → Type 0
IsUpdateOf h new image = map h.digest image ≡ map h.digest new

-- behind the first `mark` of what it gave the store gave these blocks, one for each number from 0 on
abbrev pub GaveAll : {S : Type 0} → store.Ghosts S → ℕ → S → List (List ℕ) → Type 0
GaveAll facts mark s blocks = (i : ℕ) → i < length blocks → Gave facts mark s i (slice_index_or blocks i [])

-- no block is changed that the image has with the digest of NEW's
abbrev pub IsSpared : Hashing → (image new : List (List ℕ)) → (changed : ℕ → Bool) → Type 0
IsSpared h image new changed = (i : ℕ) → i < length image → i < length new
    → h.digest (slice_index_or image i []) ≡ h.digest (slice_index_or new i []) → changed i ≡ false

-- NEW gave an image of all its blocks, and for every image that fits the table line what is made of it is an update to that, and no
-- block is written or added that has its digest already, unless the hash store gave a clash
pub record Updates {H N : Type 0} (hash : store.Ghosts H) (news : store.Ghosts N) (t : Table) (h h' : H) (s s' : N)
    (made : List (List ℕ) → List (List ℕ)) (changed : ℕ → Bool) : Type 0 where
  pub new : List (List ℕ)
  pub whole : length new ≡ length (news.content s)
  pub gave : GaveAll news (length (news.given s)) s' new
  pub updated : (image : List (List ℕ)) → Fits t image
      → IsUpdateOf (hashing_of t) new (made image) ⊎ Clash t (hash_given hash t (length (hash.given h)) h') image
  pub spared : (image : List (List ℕ)) → Fits t image
      → IsSpared (hashing_of t) image new changed ⊎ Clash t (hash_given hash t (length (hash.given h)) h') image

-- how many of the first n blocks were written or added
abbrev pub changed_count : (ℕ → Bool) → ℕ → ℕ
changed_count changed n = count_by changed (range_with_len 0 n)

-- the line of the image NEW, of the same volume
abbrev pub line_of_new : Table → (new : List (List ℕ)) → Table
line_of_new t new = record t { data_blocks = length new; root = root (hashing_of t) new }
