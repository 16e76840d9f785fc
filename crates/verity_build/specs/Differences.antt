-- What a comparison of a hash store with a tree finds. The block that a store has at a place past its
-- end is the empty list, which no hash block is.
use Rattle.std.specs.Prelude.{◌≡◌, ◌≢◌, ℕ, ◌+◌, ◌<◌, List, [], length, take, drop, slice_index_or, nat_lt, if◌then◌else◌, Option}
use Rattle.std.specs.Prelude.{None, Some, ⊤}
use Rattle.verity_digest.specs.Tree.{Hashing, root, tree}
use Rattle.verity_geometry.specs.Geometry.{Shape, levels_of, len_of, place_of}
use Rattle.verity_tree.specs.Open.{Open}
use Rattle.verity_tree.specs.Climb.{open_at}
use Rattle.verity_build.specs.Progress.{IsRight}
use Rattle.verity_build.specs.declared.compared.Compared.{Compared}
use Rattle.verity_build.specs.declared.compared.Compared.TheVariants.{Same, Differs}
use Rattle.verity_build.specs.declared.comparing.Place.{Place}

-- from `start` on the content begins with these blocks
abbrev pub BeginsWith : ℕ → List (List ℕ) → List (List ℕ) → Type 0
BeginsWith start blocks content = take (length blocks) (drop start content) ≡ blocks

-- this place holds another block than the tree has there, and no place before it does
pub record IsFirstDifference (s : Shape) (start : ℕ) (blocks content : List (List ℕ)) (level index : ℕ) : Type 0 where
  pub level_there : level < levels_of s
  pub index_there : index < len_of s level
  pub differs : slice_index_or content (start + place_of s level index) [] ≢ slice_index_or blocks (place_of s level index) []
  pub before : (q : ℕ) → q < place_of s level index → slice_index_or content (start + q) [] ≡ slice_index_or blocks q []

-- the root hash where the content begins with the image's tree, else the first place that differs
abbrev pub IsCompared : Shape → Hashing → List (List ℕ) → ℕ → List (List ℕ) → Compared → Type 0
IsCompared s h image start content (Same digest) = (digest ≡ root h image) × BeginsWith start (tree h image) content
IsCompared s h image start content (Differs level index) = IsFirstDifference s start (tree h image) content level index

-- the place comes before the one that was found, if one was
abbrev pub ComesBefore : Shape → ℕ → Option Place → Type 0
ComesBefore s p None = ⊤
ComesBefore s p (Some found) = p < place_of s found.level found.index

-- the place that was found is of a block that was closed, and differs
abbrev pub Found : Shape → ℕ → List (List ℕ) → List Open → List (List ℕ) → Option Place → Type 0
Found s start blocks opens content None = ⊤
Found s start blocks opens content (Some found) = (found.level < length opens) × (found.index < (open_at opens found.level).index)
    × (slice_index_or content (start + place_of s found.level found.index) [] ≢ slice_index_or blocks
    (place_of s found.level found.index) [])

-- of the blocks that were closed, the place that was found is the first that differs
pub record AreCompared (s : Shape) (start : ℕ) (blocks : List (List ℕ)) (opens : List Open) (content : List (List ℕ))
    (found : Option Place) : Type 0 where
  pub same : (l i : ℕ) → l < length opens → i < (open_at opens l).index → ComesBefore s (place_of s l i) found
      → slice_index_or content (start + place_of s l i) [] ≡ slice_index_or blocks (place_of s l i) []
  pub met : Found s start blocks opens content found

-- whatever the image is: where the closed blocks were compared, they still are
abbrev pub StaysCompared : Hashing → Shape → ℕ → List (List ℕ) → List Open → Option (List ℕ) → Option Place → List Open →
    Option Place → Type 0
StaysCompared h s start content old old_root old_found new new_found = (image : List (List ℕ)) → length image ≡ s.blocks →
    IsRight h image old old_root
    → AreCompared s start (tree h image) old content old_found → AreCompared s start (tree h image) new content new_found

-- of what was found and a new difference, the one on the higher level; on one level the one found first
abbrev pub earlier : Option Place → Place → Option Place
earlier None new = Some new
earlier (Some found) new = if nat_lt found.level new.level then Some new else Some found
