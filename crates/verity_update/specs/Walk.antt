-- The walk along the blocks of NEW.
use Rattle.std.specs.Prelude.{◌≡◌, ◌≢◌, ℕ, ◌^◌, ◌<◌, ◌≤◌, ◌⊎◌, Bool, List, [], length, slice_index_or}
use Rattle.verity_digest.specs.Tree.{Hashing}
use Rattle.verity_store.specs.declared.store.BlockStore as store
use Rattle.verity_chain.specs.Table.{Table, hashing_of}
use Rattle.verity_chain.specs.Chain.{Given, Names}
use Rattle.verity_chain.specs.Right.{Fits, Clash}
use Rattle.verity_pending.specs.declared.fault.EditFault.{EditFault}
use Rattle.verity_pending.specs.declared.fault.EditFault.TheVariants.{TooSmall, TooLarge}
use Rattle.verity_update.specs.Update.{GaveAll}

-- the working image has the blocks of the committed one where both have one
abbrev pub Keeps : Table → (List (List ℕ) → List (List ℕ)) → Type 0
Keeps t working = (image : List (List ℕ)) → Fits t image → (i : ℕ) → i < t.data_blocks → i < length (working image)
    → slice_index_or (working image) i [] ≡ slice_index_or image i []

-- block n has the digest of x, and the others are as they were
pub record IsTaken (h : Hashing) (n : ℕ) (x : List ℕ) (old new : List (List ℕ)) : Type 0 where
  pub count : length new ≡ length old
  pub here : h.digest (slice_index_or new n []) ≡ h.digest x
  pub others : (i : ℕ) → i ≢ n → slice_index_or new i [] ≡ slice_index_or old i []

-- so it is for every image that fits the table line and has its own block n in the working image, unless there is a clash
abbrev pub Takes : Table → Given → ℕ → List ℕ → (old new : List (List ℕ) → List (List ℕ)) → Type 0
Takes t given n x old new = (image : List (List ℕ)) → Fits t image → n < length (old image)
    → (n < t.data_blocks → slice_index_or (old image) n [] ≡ slice_index_or image n [])
    → IsTaken (hashing_of t) n x (old image) (new image) ⊎ Clash t given image

-- another digest than this is named for data block n
pub record NamesOther (t : Table) (given : Given) (n : ℕ) (d : List ℕ) : Type 0 where
  pub named : List ℕ
  pub names : Names t given 0 n named
  pub other : named ≢ d

-- Block n isn't written where the image's own has the digest of x, unless there is a clash.
abbrev pub Spares : Table → Given → ℕ → List ℕ → (old new : ℕ → Bool) → Type 0
Spares t given n x old new = (image : List (List ℕ)) → Fits t image
    → (n < t.data_blocks → (hashing_of t).digest (slice_index_or image n []) ≡ (hashing_of t).digest x → new n ≡ old n)
    ⊎ Clash t given image

-- the first blocks have the digests of those that were seen of NEW, and the others are as they were
pub record IsTakenTo (h : Hashing) (seen old new : List (List ℕ)) : Type 0 where
  pub count : length new ≡ length old
  pub here : (i : ℕ) → i < length seen → h.digest (slice_index_or new i []) ≡ h.digest (slice_index_or seen i [])
  pub others : (i : ℕ) → length seen ≤ i → slice_index_or new i [] ≡ slice_index_or old i []

-- n blocks of NEW were given, and taken; of these none was written where the image's own block has its digest
pub record TakesTo {N : Type 0} (news : store.Ghosts N) (t : Table) (given : Given) (s s' : N) (n : ℕ)
    (old new : List (List ℕ) → List (List ℕ)) (old_changed new_changed : ℕ → Bool) : Type 0 where
  pub seen : List (List ℕ)
  pub all : length seen ≡ n
  pub gave : GaveAll news (length (news.given s)) s' seen
  pub taken : (image : List (List ℕ)) → Fits t image → IsTakenTo (hashing_of t) seen (old image) (new image) ⊎ Clash t given image
  pub spared : (image : List (List ℕ)) → Fits t image → ((i : ℕ) → i < n → i < t.data_blocks
      → (hashing_of t).digest (slice_index_or image i []) ≡ (hashing_of t).digest (slice_index_or seen i [])
      → new_changed i ≡ old_changed i) ⊎ Clash t given image
  pub rest : (i : ℕ) → n ≤ i → new_changed i ≡ old_changed i

-- no image has this count: none, or more than 2^40
abbrev pub RefusesCount : ℕ → EditFault → Type 0
RefusesCount count fault = ((fault ≡ TooSmall) × (count ≡ 0)) ⊎ ((fault ≡ TooLarge) × (2 ^ 40 < count))
