-- What a hash store holds while a tree is written to it, or compared with it.
use Rattle.std.specs.Prelude.{◌≡◌, ℕ, ◌+◌, ◌<◌, List, [], length, slice_index_or, Option}
use Rattle.verity_digest.specs.Tree.{Hashing, tree}
use Rattle.verity_geometry.specs.Geometry.{Shape, place_of}
use Rattle.verity_store.specs.Stores.{IsLater}
use Rattle.verity_store.specs.declared.store.BlockStore as store
use Rattle.verity_tree.specs.Open.{Open}
use Rattle.verity_tree.specs.Climb.{open_at}
use Rattle.verity_build.specs.Progress.{IsRight}

-- the blocks that were closed stand where the tree of this shape has them, from `start` on
abbrev pub AreStored : Shape → ℕ → List (List ℕ) → List Open → List (List ℕ) → Type 0
AreStored s start blocks opens content = (l i : ℕ) → l < length opens → i < (open_at opens l).index
    → slice_index_or content (start + place_of s l i) [] ≡ slice_index_or blocks (place_of s l i) []

-- a run of writes to blocks from `start` on
pub record WritesFrom {S : Type 0} (facts : store.Ghosts S) (start : ℕ) (old new : S) : Type 0 where
  pub len : length (facts.content new) ≡ length (facts.content old)
  pub front : (q : ℕ) → q < start → slice_index_or (facts.content new) q [] ≡ slice_index_or (facts.content old) q []
  pub reads : facts.reads new ≡ facts.reads old
  pub room : facts.room new ≡ facts.room old
  pub later : IsLater facts old new

-- whatever the image is: where the open blocks were right, they still are
abbrev pub StaysRight : Hashing → ℕ → List Open → Option (List ℕ) → List Open → Option (List ℕ) → Type 0
StaysRight h blocks old old_root new new_root = (image : List (List ℕ)) → length image ≡ blocks → IsRight h image old old_root →
    IsRight h image new new_root

-- .. and where the closed blocks were stored, they still are
abbrev pub StaysStored : Hashing → Shape → ℕ → List Open → Option (List ℕ) → List (List ℕ) → List Open → List (List ℕ) → Type 0
StaysStored h s start old old_root old_content new new_content = (image : List (List ℕ)) → length image ≡ s.blocks →
    IsRight h image old old_root
    → AreStored s start (tree h image) old old_content → AreStored s start (tree h image) new new_content
