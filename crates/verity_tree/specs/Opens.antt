-- What the open blocks of a tree are, whichever of their digests are still to be made.
use Rattle.std.specs.Prelude.{◌≡◌, ℕ, List, []}
use Rattle.verity_digest.specs.Hash.{hashing}
use Rattle.verity_digest.specs.Tree.{Hashing}
use Rattle.verity_tree.specs.Open.{Open}
use Rattle.verity_tree.specs.Coming.{coming, opens_from}
use Rattle.verity_tree.specs.declared.open_tree.OpenTree.{OpenTree}

-- how the tree's blocks are hashed
abbrev pub hashing_of : {A : Type 0} → OpenTree A → Hashing
hashing_of tree = hashing tree.hasher.salted tree.geometry.hash_size

-- the open block of each level, with all digests that came to it
abbrev pub opens : {A : Type 0} → OpenTree A → List Open
opens tree = opens_from (hashing_of tree) tree.waiting.items 0 tree.blocks.items

-- no digest that comes to the level is still to be made
abbrev pub IsSettled : {A : Type 0} → OpenTree A → ℕ → Type 0
IsSettled tree level = coming (hashing_of tree) tree.waiting.items level ≡ []
