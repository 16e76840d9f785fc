-- The image that a data store gave.
use Rattle.std.specs.Prelude.{◌≡◌, ℕ, ◌<◌, List, [], length, take, slice_index_or, All, Option}
use Rattle.verity_digest.specs.Tree.{Hashing, root}
use Rattle.verity_store.specs.Given.{GaveSince}
use Rattle.verity_store.specs.declared.store.BlockStore as store
use Rattle.verity_tree.specs.Open.{Open}
use Rattle.verity_build.specs.Progress.{IsRight}

-- blocks of the store's size, each of which it gave for its number between two moments
pub record AreGiven {S : Type 0} (facts : store.Ghosts S) (old new : S) (blocks : List (List ℕ)) : Type 0 where
  pub sized : All (λ block. length block ≡ facts.size old) blocks
  pub gave : (n : ℕ) → n < length blocks → GaveSince (facts.given new) (length (facts.given old)) n (slice_index_or blocks n [])

-- .. as many as it has: an image
pub record IsGivenImage {S : Type 0} (facts : store.Ghosts S) (old new : S) (image : List (List ℕ)) : Type 0 where
  pub blocks : length image ≡ length (facts.content old)
  pub given : AreGiven facts old new image

-- the root hash is that of such an image
abbrev pub IsRootOfGiven : {S : Type 0} → store.Ghosts S → S → S → Hashing → List ℕ → Type 0
IsRootOfGiven facts old new h digest = (image : List (List ℕ)) × IsGivenImage facts old new image × (digest ≡ root h image)

-- the first n blocks of an image were given, and so many blocks are all of it; what is open is right, whatever the others are
pub record IsGivenTo {S : Type 0} (facts : store.Ghosts S) (old new : S) (h : Hashing) (all n : ℕ) (opens : List Open)
    (top : Option (List ℕ)) : Type 0 where
  pub made : List (List ℕ)
  pub len : length made ≡ n
  pub given : AreGiven facts old new made
  pub right : (image : List (List ℕ)) → length image ≡ all → take n image ≡ made → IsRight h image opens top
